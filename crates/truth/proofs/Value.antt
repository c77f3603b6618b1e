-- The steps of an expression leave its truth value.
use Rattle.std.proofs.Common.{◌≡◌, Bool, Ok, Result, subst, ⊎_elim}
use Rattle.std.specs.Prelude.{⊤}
use Rattle.expressions.specs.Grammar.{Expr, never, always, named, neg, conj, disj}
use Rattle.expressions.specs.Conditions.{Item, false-item, true-item, not-item, and_item, or-item, name_item}
use Rattle.expressions.specs.Truth.{Env, truth}
use Rattle.stack_machine.specs.Works.{Run, After, Works}
use Rattle.truth.specs.Worked.{one}

module _ {E : Type 0} (D : Env) where
  abbrev pub Gives : Item → Bool → Bool → Run ⊤ Bool E
  Gives i a b s r t = r ≡ Ok (one i D a b)

  on_value : (i : Item) (a b : Bool) (k : Bool → Run ⊤ Bool E) (s : ⊤) (r : Result Bool E) (t : ⊤) → After (Gives i a b) k s r t → k (one i D a b) s r t
  on_value i a b k s r t h = ⊎_elim (λ y. cc (y.1)) (λ y. let q : y.0 ≡ one i D a b = cc (y.2) in subst (λ (v : Bool). k v s r t) q y.3) h

  -- what follows the expression goes on with its truth value
  pub works_truth : (idle : Bool) (e : Expr) (k : Bool → Run ⊤ Bool E) (s : ⊤) (r : Result Bool E) (t : ⊤) → Works Gives idle e k s r t → k (truth e D) s r t
  works_truth z never k s r t h = on_value false-item z z k s r t h
  works_truth z always k s r t h = on_value true-item z z k s r t h
  works_truth z (named x) k s r t h = on_value (name_item x) z z k s r t h
  works_truth z (neg e) k s r t h = on_value not-item (truth e D) z k s r t (works_truth z e (λ a. After (Gives not-item a z) k) s r t h)
  works_truth z (conj e f) k s r t h =
      on_value and_item (truth e D) (truth f D) k s r t
      (works_truth z f (λ b. After (Gives and_item (truth e D) b) k) s r t (works_truth z e (λ a. Works Gives z f (λ b. After (Gives and_item a b) k)) s r t h))
  works_truth z (disj e f) k s r t h =
      on_value or-item (truth e D) (truth f D) k s r t
      (works_truth z f (λ b. After (Gives or-item (truth e D) b) k) s r t (works_truth z e (λ a. Works Gives z f (λ b. After (Gives or-item a b) k)) s r t h))

-- The steps of an expression, run on a stack, work it out.
use Rattle.std.proofs.Common.{◌≡◌, ℕ, ◌+◌, ◌<◌, ◌≤◌, List, [], ◌∷◌, ◌++◌, reverse, length, get_or, drop, Ok, Err, Result, sym, refl, ap, ◌∙◌, subst, inl, inr, append_assoc, append-nil, add-one, drop-cons}
use mathlib.Core.Path.{fun_ext}
use Rattle.std.proofs.lemmas.List.{drop_all, reverse-append}
use Rattle.expressions.specs.Grammar.{Expr, never, always, named, neg, conj, disj}
use Rattle.expressions.specs.Conditions.{Item, not-item, and_item, or-item, item, items, postfix}
use Rattle.expressions.specs.declared.condition.Step.{Step}
use Rattle.stack_machine.specs.Works.{Run, Answers, After, Works}
use Rattle.stack_machine.specs.Stack.{first, operands, popped}

joined : (e f : Expr) (i : Item) (is : List Item) → (postfix e ++ (postfix f ++ i ∷ [])) ++ is ≡ postfix e ++ (postfix f ++ (i ∷ is))
joined e f i is = simp append_assoc

module _ {S V E : Type 0} (gives : Item → V → V → Run S V E) (d : V) where
  -- the steps one after another; the answer is the value left on top
  abbrev pub Ran : List Item → List V → Run S V E
  Ran [] st = Answers (first d st)
  Ran (i ∷ is) st = After (gives i (operands d i st).0 (operands d i st).1) (λ v. Ran is (v ∷ popped i st))

  ran_works : (e : Expr) (is : List Item) (st : List V) → Ran (postfix e ++ is) st ≡ Works gives d e (λ v. Ran is (v ∷ st))
  ran_works never is st = refl
  ran_works always is st = refl
  ran_works (named x) is st = refl
  ran_works (neg e) is st = ap (λ (l : List Item). Ran l st) (append_assoc (postfix e) (not-item ∷ []) is) ∙ ran_works e (not-item ∷ is) st
  ran_works (conj e f) is st =
      ap (λ (l : List Item). Ran l st) (joined e f and_item is)
      ∙ ran_works e (postfix f ++ (and_item ∷ is)) st
      ∙ ap (Works gives d e) (fun_ext (λ a. ran_works f (and_item ∷ is) (a ∷ st)))
  ran_works (disj e f) is st =
      ap (λ (l : List Item). Ran l st) (joined e f or-item is)
      ∙ ran_works e (postfix f ++ (or-item ∷ is)) st
      ∙ ap (Works gives d e) (fun_ext (λ a. ran_works f (or-item ∷ is) (a ∷ st)))

  -- all steps of an expression, from an empty stack
  ran_all : (e : Expr) (is : List Item) (s : S) (r : Result V E) (s' : S) → is ≡ postfix e → Ran is [] s r s' → Works gives d e Answers s r s'
  ran_all e is s r s' q h =
      let p : Ran is [] ≡ Works gives d e Answers = ap (λ (l : List Item). Ran l []) (q ∙ sym (append-nil (postfix e))) ∙ ran_works e [] [] in
      subst (λ (w : Run S V E). w s r s') p h

  -- what the steps from the i-th on do from here, all steps do from the start
  pub record GoesOn (steps : List Step) (s₀ s : S) (i : ℕ) (st : List V) : Type 0 where
    pub on : (r : Result V E) (s' : S) → Ran (items (drop i steps)) st s r s' → Ran (items steps) [] s₀ r s'

  module _ {steps : List Step} {s₀ s : S} {i : ℕ} {st : List V} (x : Step) (go : GoesOn steps s₀ s i st) where
    -- the next step, on operands w from the stack
    next : (r : Result V E) (s' : S) (w : V × V) → i < length steps → w ≡ operands d (item (get_or steps i x)) st
        → After (gives (item (get_or steps i x)) w.0 w.1) (λ v. Ran (items (drop (i + 1) steps)) (v ∷ popped (item (get_or steps i x)) st)) s r s' → Ran (items steps) [] s₀ r s'
    next r s' w h o j =
        let y = get_or steps i x in
        let cut : drop i steps ≡ y ∷ drop (i + 1) steps = rw (add-one, drop-cons steps i x) in
        let j' = subst (λ (w : V × V). After (gives (item y) w.0 w.1) (λ v. Ran (items (drop (i + 1) steps)) (v ∷ popped (item y) st)) s r s') o j in
        go.on r s' (subst (λ (l : List Step). Ran (items l) st s r s') (sym cut) j')

    pub goes_more : (v : V) (t : S) (w : V × V) (vs ws : List V) → i < length steps → gives (item (get_or steps i x)) w.0 w.1 s (Ok v) t
        → w ≡ operands d (item (get_or steps i x)) st → reverse vs ≡ popped (item (get_or steps i x)) st → ws ≡ vs ++ v ∷ [] → GoesOn steps s₀ t (i + 1) (reverse ws)
    goes_more v t w vs ws h g o p q =
        let pushed : reverse ws ≡ v ∷ popped (item (get_or steps i x)) st = ap reverse q ∙ reverse-append vs (v ∷ []) ∙ ap (λ (l : List V). v ∷ l) p in
        record { on = λ r s' j. next r s' w h o (inr (v, t, g, subst (λ (l : List V). Ran (items (drop (i + 1) steps)) l t r s') pushed j)) }

    pub goes_refused : (e : Expr) (f : E) (r : Result V E) (t : S) (w : V × V) → i < length steps → gives (item (get_or steps i x)) w.0 w.1 s (Err f) t
        → w ≡ operands d (item (get_or steps i x)) st → r ≡ Err f → items steps ≡ postfix e → Works gives d e Answers s₀ r t
    goes_refused e f r t w h g o q k = ran_all e (items steps) s₀ r t k (next r t w h o (inl (f, g, q)))

    pub goes_end : (e : Expr) (v : V) → length steps ≤ i → v ≡ first d st → items steps ≡ postfix e → Works gives d e Answers s₀ (Ok v) s
    goes_end e v h q k = ran_all e (items steps) s₀ (Ok v) s k (go.on (Ok v) s (subst (λ (l : List Step). Ran (items l) st s (Ok v) s) (sym (drop_all i steps h)) (ap Ok q, refl)))

-- Parts joined by one token, as the parser reads them, against the grammar.
--   Looped op join t p q   from p, behind the first part, to q further parts were read, and their steps written
use Rattle.std.proofs.Common.{append-nil, ◌≡◌, ℕ, zero, suc, ◌<◌, ◌≤◌, Bool, true, false, cond, List, [], ◌∷◌, ◌++◌, length, Ok, Err, Result, sym, refl, ap, ◌∙◌, subst, append_assoc, arith, length-append}
use Rattle.text.specs.Tokens.{Tok, Placed}
use Rattle.expressions.specs.Grammar.{Expr, Out, after, more, chain}
use Rattle.expressions.specs.Conditions.{kinds, Item, postfix}
use Rattle.parser.specs.Parsing.{ahead, written, Run, Advanced, Outcome}
use Rattle.expressions.specs.declared.fault.ExpressionFault.{ExpressionFault}
use Rattle.parser.specs.declared.descent.Parser.{Parser}
use Rattle.parser.proofs.Moves.{next_is}
use Rattle.parser.proofs.Parts.{then, later, was_read, was_refused, reads, refuses, advanced_kinds}

pub length_kinds : (ps : List Placed) → length (kinds ps) ≡ length ps
length_kinds [] = refl
length_kinds (p ∷ ps) = ap suc (length_kinds ps)

pub record Looped (op : Tok → Bool) (join : Expr → Expr → Expr) (t : List Tok → Out) (p q : Parser) : Type 0 where
  pub past : List Placed
  pub steps : List Item
  pub run : Run p q past steps
  pub few : length steps ≤ length past
  pub joined : (e : Expr) → (k : ℕ) × (f : Expr) × (length (kinds (ahead q)) ≤ k) × (postfix f ≡ postfix e ++ steps)
      × (more op join t (length (kinds (ahead p))) e (kinds (ahead p)) ≡ more op join t k f (kinds (ahead q)))

module _ (op : Tok → Bool) (join : Expr → Expr → Expr) (t : List Tok → Out) where
  pub begun : (p q : Parser) (u : Unit {0}) (z : Out) → Outcome postfix p q (Ok u) z → Looped op join t q q
  begun p q u z o = record {
    past = [];
    steps = [];
    run = record { line = refl; number = refl; ahead = refl; written = sym (append-nil (written q)) };
    few = omega arith;
    joined = λ e. (length (kinds (ahead q)), e, omega arith, sym (append-nil (postfix e)), refl);
  }

  -- one more part
  step : (k : ℕ) (e : Expr) (ks r : List Tok) (x : Tok) → ks ≡ x ∷ r → next_is op ks ≡ true → more op join t (suc k) e ks ≡ after (t r) (λ f s. more op join t k (join e f) s)
  step k e ks r x h n =
      ap (more op join t (suc k) e) h
      ∙ ap (λ (b : Bool). cond b (after (t r) (λ f s. more op join t k (join e f) s)) (Ok (e, x ∷ r))) (sym (ap (next_is op) h) ∙ n)

  further : (k : ℕ) (e f : Expr) (ks r s : List Tok) (x : Tok) → length ks ≤ k → length s ≤ length r → ks ≡ x ∷ r → next_is op ks ≡ true → t r ≡ Ok (f, s)
      → (m : ℕ) × (length s ≤ m) × (more op join t k e ks ≡ more op join t m (join e f) s)
  further zero e f ks r s x a b h n g = absurd (omega (arith, ap length h))
  further (suc k) e f ks r s x a b h n g =
      (k, omega (arith, ap length h), step k e ks r x h n ∙ ap (λ (z : Out). after z (λ f s. more op join t k (join e f) s)) g)

  fails : (k : ℕ) (e : Expr) (ks r : List Tok) (x : Tok) (f : ℕ × List Tok) → length ks ≤ k → ks ≡ x ∷ r → next_is op ks ≡ true → t r ≡ Err f
      → more op join t k e ks ≡ Err f
  fails zero e ks r x f a h n g = absurd (omega (arith, ap length h))
  fails (suc k) e ks r x f a h n g = step k e ks r x h n ∙ ap (λ (z : Out). after z (λ f s. more op join t k (join e f) s)) g

  halts : (k : ℕ) (e : Expr) (ks : List Tok) → next_is op ks ≡ false → more op join t k e ks ≡ Ok (e, ks)
  halts k e [] n = refl
  halts zero e (x ∷ r) n = refl
  halts (suc k) e (x ∷ r) n = ap (λ (b : Bool). cond b (after (t r) (λ f s. more op join t k (join e f) s)) (Ok (e, x ∷ r))) n

  -- a turn of the loop, which ends by writing the step o
  module _ (p q q₁ q₂ q₃ : Parser) (o : Item) (u : Unit {0}) (l : Looped op join t p q) (n : next_is op (kinds (ahead q)) ≡ true) (a : Advanced q q₁)
      (d : Outcome postfix q₁ q₂ (Ok u) (t (kinds (ahead q₁)))) (i : Run q₂ q₃ [] (o ∷ [])) where
    turned : Run q q₃ (a.0 ∷ ((was_read postfix q₁ q₂ (t (kinds (ahead q₁))) u d).3.past ++ [])) (postfix (was_read postfix q₁ q₂ (t (kinds (ahead q₁))) u d).0 ++ o ∷ [])
    turned = then a.1 (then (was_read postfix q₁ q₂ (t (kinds (ahead q₁))) u d).3.run i)

    pub shorter : length (ahead q₃) < length (ahead q)
    shorter =
        let w = (was_read postfix q₁ q₂ (t (kinds (ahead q₁))) u d).3 in
        omega (arith, ap length a.1.ahead, ap length w.run.ahead, ap length i.ahead, length-append w.past (ahead q₂))

    pub again : ((e f : Expr) → postfix (join e f) ≡ postfix e ++ (postfix f ++ o ∷ [])) → Looped op join t p q₃
    again post =
        let w = was_read postfix q₁ q₂ (t (kinds (ahead q₁))) u d in
        let js : List Item = postfix w.0 ++ o ∷ [] in
        record {
          past = l.past ++ (a.0 ∷ (w.3.past ++ []));
          steps = l.steps ++ js;
          run = then l.run turned;
          few = omega (arith, l.few, w.3.few, length-append l.past (a.0 ∷ (w.3.past ++ [])), length-append w.3.past [], length-append l.steps js, length-append (postfix w.0) (o ∷ []));
          joined = λ e.
              let j = l.joined e in
              let rest : w.1 ≡ kinds (ahead q₃) = sym w.3.rest ∙ ap kinds i.ahead in
              let few : length w.1 ≤ length (kinds (ahead q₁)) =
              omega (arith, ap length w.3.rest, length_kinds (ahead q₁), length_kinds (ahead q₂), ap length w.3.run.ahead, length-append w.3.past (ahead q₂)) in
              let f = further j.0 j.1 w.0 (kinds (ahead q)) (kinds (ahead q₁)) w.1 a.0.0 j.2 few (advanced_kinds q q₁ a.0 a.1) n w.2 in (
                f.0,
                join j.1 w.0,
                omega (arith, f.1, ap length rest),
                post j.1 w.0 ∙ ap (λ (z : List Item). z ++ js) j.3 ∙ append_assoc (postfix e) l.steps js,
                j.4 ∙ f.2 ∙ ap (more op join t f.0 (join j.1 w.0)) rest,
              );
        }

  module _ (p q : Parser) (u : Unit {0}) (d : Outcome postfix p q (Ok u) (t (kinds (ahead p)))) where
    from_first : (e : Expr) (r : List Tok) → t (kinds (ahead p)) ≡ Ok (e, r) → kinds (ahead q) ≡ r → chain op join t (kinds (ahead p)) ≡ more op join t (length (kinds (ahead q))) e (kinds (ahead q))
    from_first e r h k =
        ap (λ (z : Out). after z (λ e r. more op join t (length r) e r)) h ∙ ap (λ (r : List Tok). more op join t (length r) e r) (sym k)

    pub ends : (s : Parser) → Looped op join t q s → next_is op (kinds (ahead s)) ≡ false → Outcome postfix p s (Ok tt) (chain op join t (kinds (ahead p)))
    ends s l n =
        let w = was_read postfix p q (t (kinds (ahead p))) u d in
        let j = l.joined w.0 in
        reads postfix p s (chain op join t (kinds (ahead p))) j.1 (kinds (ahead s))
        (from_first w.0 w.1 w.2 w.3.rest ∙ j.4 ∙ halts j.0 j.1 (kinds (ahead s)) n)
        (record {
          past = w.3.past ++ l.past;
          run = subst (Run p s (w.3.past ++ l.past)) (sym j.3) (then w.3.run l.run);
          few = omega (arith, ap length j.3, length-append (postfix w.0) l.steps, length-append w.3.past l.past, w.3.few, l.few);
          rest = refl;
        })

    pub breaks : (s s₁ s₂ : Parser) (y : Result (Unit {0}) ExpressionFault) (f : ExpressionFault) → Looped op join t q s → next_is op (kinds (ahead s)) ≡ true
        → Advanced s s₁ → y ≡ Err f → Outcome postfix s₁ s₂ (Err f) (t (kinds (ahead s₁))) → Outcome postfix p s₂ y (chain op join t (kinds (ahead p)))
    breaks s s₁ s₂ y f l n a h o =
        let w = was_read postfix p q (t (kinds (ahead p))) u d in
        let j = l.joined w.0 in
        let v = was_refused postfix s₁ s₂ (t (kinds (ahead s₁))) f o in
        refuses postfix p s₂ (chain op join t (kinds (ahead p))) y f v.0 v.1 h
        (from_first w.0 w.1 w.2 w.3.rest ∙ j.4
        ∙ fails j.0 j.1 (kinds (ahead s)) (kinds (ahead s₁)) a.0.0 (v.0, v.1) j.2 (advanced_kinds s s₁ a.0 a.1) n v.2)
        (later (then w.3.run (then l.run a.1)) v.3)

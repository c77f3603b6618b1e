-- The reading of expressions against the rules: accepted exactly where they derive one, refused at the first token that cannot go on, with the number
-- that what is due there gives.
use Rattle.std.proofs.Common.{◌≡◌, ℕ, true, List, [], ◌∷◌, ◌++◌, length, Ok, Err, Result, sym, refl, ap, ◌∙◌, subst, append_assoc, arith, length-append}
use Rattle.text.specs.Tokens.{Tok, nought, name}
use Rattle.expressions.specs.Grammar.{Expr, Out, expr, ended, finished, parsed}
use Rattle.expressions.specs.Derived.{ors, Derives, Expression, Exact, OneOnly, GoesOn, GoesOnWithin, Stops, AtFirst, OneTooDeep, Number, no_name, no_term, surplus, Numbered}
use Rattle.expressions.specs.Examples.{Examples}
use Rattle.expressions.proofs.Joins.{Stuck, Can, First, Law, name_is_due, term_due, neither, law_by, Got}
use Rattle.expressions.proofs.Terms.{no_more, expressions}

append_none : (q : List Tok) → q ++ [] ≡ q
append_none [] = refl
append_none (x ∷ q) = ap (λ (z : List Tok). x ∷ z) (append_none q)

complete : (ts : List Tok) (e : Expr) → Expression ts e → parsed ts ≡ Ok e
complete ts e d = ap (λ (z : List Tok). parsed z) (sym (append_none ts)) ∙ ap finished ((expressions 16).complete ts e d [] refl)

pub never_both : (ts : List Tok) (f : ℕ × List Tok) → parsed ts ≡ Err f → (e : Expr) → Expression ts e → ⊥
never_both ts f q e d = let p = complete ts e d in let z : ◌≡◌ {A = ℕ} 0 1 = cc in omega arith

-- nothing behind u and z, where the first of z is refused behind u
abbrev Refuses : List Tok → ℕ → List Tok → Type 0
Refuses u n [] = Unit {0}
Refuses u n (x ∷ s) = (v : List Tok) → parsed (u ++ x ∷ v) ≡ Err (n, x ∷ v)

refuses : (u : List Tok) (n : ℕ) (s : List Tok) → Stuck (λ ts. expr 16 ts) u n s → Refuses u n s
refuses u n [] h = tt
refuses u n (x ∷ s) h = λ v. ap finished (h v)

no_way : (u : List Tok) (x : Tok) (n : ℕ) → Refuses u n (x ∷ []) → GoesOn (u ++ x ∷ []) → ⊥
no_way u x n h g =
    never_both (u ++ x ∷ g.0) (n, x ∷ g.0) (h g.0) g.1 (subst (λ (z : List Tok). Expression z g.1) (append_assoc u (x ∷ []) g.0) g.2)

way : (l : ℕ) (u : List Tok) (x : Tok) → Can (Derives ors l) u (x ∷ []) → GoesOnWithin l (u ++ x ∷ [])
way l u x g = (g.0, g.1, subst (λ (z : List Tok). Derives ors l z g.1) (sym (append_assoc u (x ∷ []) g.0)) g.2)

too_deep : (u r : List Tok) → First (Can (Derives ors 17) u) r → OneTooDeep u r
too_deep u [] f = f
too_deep u (x ∷ r) f = way 17 u x f

number : (u : List Tok) (n : ℕ) (r : List Tok) → Law (Can (Derives ors 16) u) (Can (Derives ors 17) u) (λ n s. Refuses u n s) u n r → Number u n r
number u n r (name_is_due e g b s) = no_name e (65 ∷ [], way 16 u (name (65 ∷ [])) g) b (no_way u nought 13 s)
number u n r (term_due e g s f) = no_term e (way 16 u nought g) (λ i. no_way u (name i.0) 15 (s i.0) i.1) (λ q. too_deep u r (f q))
number u n r (neither e s t) = surplus e (no_way u nought 14 s) (λ i. no_way u (name i.0) 14 (t i.0) i.1)

-- what an answer says
abbrev Right : List Tok → Result Expr (ℕ × List Tok) → Type 0
Right ts (Ok e) = Expression ts e
Right ts (Err f) = (u : List Tok) × (ts ≡ u ++ f.1) × GoesOn u × Stops u f.0 f.1 × Number u f.0 f.1

module _ (ts : List Tok) where
  behind : (u : List Tok) (e : Expr) → Expression u e → (x : Tok) (v : List Tok) → no_more (x ∷ v) ≡ true → parsed (u ++ x ∷ v) ≡ Err (14, x ∷ v)
  behind u e d x v h = ap finished ((expressions 16).complete u e d (x ∷ v) h)

  past : (u : List Tok) (e : Expr) (s : List Tok) → ts ≡ u ++ s → Expression u e → no_more s ≡ true → Right ts (ended e s)
  past u e [] q d h = subst (λ (z : List Tok). Expression z e) (sym (q ∙ append_none u)) d
  past u e (x ∷ s) q d h = (
    u,
    q,
    ([], e, subst (λ (z : List Tok). Expression z e) (sym (append_none u)) d),
    (λ v. let p = behind u e d x v h in (p, never_both (u ++ x ∷ v) (14, x ∷ v) p)),
    number u 14 (x ∷ s) (neither refl (λ v. behind u e d nought v refl) (λ y v. behind u e d (name y) v refl)),
  )

  right : (z : Out) → expr 16 ts ≡ z → Got (λ ts. expr 16 ts) (Derives ors 16) (Derives ors 17) no_more ts z → Right ts (finished z)
  right (Ok p) q g = past g.0 p.0 p.1 g.1 g.2 g.3
  right (Err f) q g = (
    g.0,
    g.1,
    g.2,
    stops f.1 g.1 g.3 (ap finished q),
    number g.0 f.0 f.1
        (law_by (Can (Derives ors 16) g.0) (Can (Derives ors 17) g.0) (Can (Derives ors 16) g.0) (Can (Derives ors 17) g.0)
        (λ n s. Stuck (λ ts. expr 16 ts) g.0 n s) (λ n s. Refuses g.0 n s) (λ z i. i) (λ z i. i) (refuses g.0) g.0 g.0 (λ b. b) f.0 f.1 g.4),
  )
    where
      stops : (s : List Tok) → ts ≡ g.0 ++ s → Stuck (λ ts. expr 16 ts) g.0 f.0 s → parsed ts ≡ Err f → Stops g.0 f.0 s
      stops [] a h q = never_both g.0 f (ap (λ (z : List Tok). parsed z) (sym (a ∙ append_none g.0)) ∙ q)
      stops (x ∷ s) a h q = λ v. let p : parsed (g.0 ++ x ∷ v) ≡ Err (f.0, x ∷ v) = ap finished (h v) in (p, never_both (g.0 ++ x ∷ v) (f.0, x ∷ v) p)

  answers : Right ts (parsed ts)
  answers = right (expr 16 ts) refl ((expressions 16).got ts)

pub exact : Exact
exact ts e = (λ q. subst (Right ts) q (answers ts), complete ts e)

pub one_only : OneOnly
one_only ts e f d g = let p = complete ts e d in let q = complete ts f g in cc

pub at_first : AtFirst
at_first ts n r q = let a = subst (Right ts) q (answers ts) in (a.0, a.1, a.2, a.3)

pub front_only : (u w r : List Tok) → u ++ r ≡ w ++ r → u ≡ w
front_only [] [] r e = refl
front_only [] (x ∷ w) r e = let z : ◌≡◌ {A = ℕ} 0 1 = omega (arith, ap length e, length-append w r) in absurd (omega arith)
front_only (x ∷ u) [] r e = let z : ◌≡◌ {A = ℕ} 0 1 = omega (arith, ap length e, length-append u r) in absurd (omega arith)
front_only (x ∷ u) (y ∷ w) r e = let i : u ≡ w = front_only u w r (cc) in cc

pub examples : Examples
examples = (refl, refl, refl, refl, refl, refl, refl, refl, refl, refl, refl, refl, refl, refl, refl, refl, refl, refl, refl, refl, refl)

pub numbered : Numbered
numbered u n r q =
    let a = subst (Right (u ++ r)) q (answers (u ++ r)) in
    subst (λ (z : List Tok). Number z n r) (sym (front_only u a.0 r a.1)) a.4

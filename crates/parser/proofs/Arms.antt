-- A term as the parser reads it, by its first token, against the grammar.
use Rattle.std.proofs.Common.{◌≡◌, ℕ, zero, suc, ◌-◌, ◌<◌, ◌⊎◌, List, [], ◌∷◌, ◌++◌, length, Some, None, Ok, Err, Result, sym, refl, ap, ◌∙◌, subst, inl, inr, arith, length-append}
use Rattle.text.specs.Tokens.{Tok, nought, unit, defined, not, and, or, opened, closed, other, Placed}
use Rattle.text.specs.Pulling.{placed, place, left}
use Rattle.text.specs.declared.scanner.Part.{Part}
use Rattle.text.specs.declared.scanner.Token.TheVariants.{And, Or, Close, Other, End}
use Rattle.expressions.specs.Grammar.{Expr, never, always, neg, Out, after, closing, name_due, term, expr}
use Rattle.expressions.specs.Conditions.{kinds, Item, not-item, postfix}
use Rattle.expressions.specs.Faults.{refused, described}
use Rattle.parser.specs.Parsing.{ahead, Run, Advanced, Outcome}
use Rattle.expressions.specs.declared.fault.ExpressionFault.{ExpressionFault}
use Rattle.parser.specs.declared.descent.Parser.{Parser}
use Rattle.parser.proofs.Parts.{then, here, later, was_read, reads, refuses, head_is, token_is, end_is, group, through}

abbrev Answer : Type 0
Answer = Result (Unit {0}) ExpressionFault

-- the grammar's term by its first token
pub term_zero : (l : ℕ) (r : List Tok) → term l (nought ∷ r) ≡ Ok (never, r)
term_zero zero r = refl
term_zero (suc l) r = refl

pub term_one : (l : ℕ) (r : List Tok) → term l (unit ∷ r) ≡ Ok (always, r)
term_one zero r = refl
term_one (suc l) r = refl

term_defined : (l : ℕ) (r : List Tok) → term l (defined ∷ r) ≡ name_due r
term_defined zero r = refl
term_defined (suc l) r = refl

term_not : (l : ℕ) (r : List Tok) → 0 < l → term l (not ∷ r) ≡ after (term (l - 1) r) (λ e s. Ok (neg e, s))
term_not zero r h = absurd (omega arith)
term_not (suc l) r h = let e : l ≡ suc l - 1 = omega arith in ap (λ (m : ℕ). after (term m r) (λ e s. Ok (neg e, s))) e

term_open : (l : ℕ) (r : List Tok) → 0 < l → term l (opened ∷ r) ≡ after (expr (l - 1) r) closing
term_open zero r h = absurd (omega arith)
term_open (suc l) r h = let e : l ≡ suc l - 1 = omega arith in ap (λ (m : ℕ). after (expr m r) closing) e

pub wrong_and : (l : ℕ) (r : List Tok) → term l (and ∷ r) ≡ Err (14, and ∷ r)
wrong_and zero r = refl
wrong_and (suc l) r = refl

pub wrong_or : (l : ℕ) (r : List Tok) → term l (or ∷ r) ≡ Err (14, or ∷ r)
wrong_or zero r = refl
wrong_or (suc l) r = refl

pub wrong_close : (l : ℕ) (r : List Tok) → term l (closed ∷ r) ≡ Err (14, closed ∷ r)
wrong_close zero r = refl
wrong_close (suc l) r = refl

pub wrong_other : (l : ℕ) (r : List Tok) → term l (other ∷ r) ≡ Err (14, other ∷ r)
wrong_other zero r = refl
wrong_other (suc l) r = refl

wrong_end : (l : ℕ) → term l [] ≡ Err (14, [])
wrong_end zero = refl
wrong_end (suc l) = refl

-- a constant, which gives the step i
pub constant : (l : ℕ) (p q r : Parser) (t : Tok) (at : ℕ) (e : Expr) (i : Item) → ((ks : List Tok) → term l (t ∷ ks) ≡ Ok (e, ks)) → postfix e ≡ i ∷ []
    → placed p.token ≡ Some (t, at) → Advanced p q → Run q r [] (i ∷ []) → Outcome postfix p r (Ok tt) (term l (kinds (ahead p)))
constant l p q r t at e i h k s a b =
    reads postfix p r (term l (kinds (ahead p))) e (kinds (ahead r))
    (ap (λ (ks : List Tok). term l ks) (head_is p q t at s a) ∙ h (kinds (ahead q)) ∙ ap (λ (ps : List Placed). Ok (e, kinds ps)) b.ahead)
    (record {
      past = a.0 ∷ [];
      run = subst (Run p r (a.0 ∷ [])) (sym k) (then a.1 b);
      few = omega (arith, ap length k);
      rest = refl;
    })

-- a token that cannot stand where a term is due
pub wrong : (l : ℕ) (p q : Parser) (t : Tok) (at n : ℕ) (f : ExpressionFault) → placed p.token ≡ Some (t, at) → ((ks : List Tok) → term l (t ∷ ks) ≡ Err (n, t ∷ ks))
    → described f ≡ refused n p.number (place p.token) → Outcome postfix p q (Err f) (term l (kinds (ahead p)))
wrong l p q t at n f s h d =
    let k = token_is p t at s in
    refuses postfix p q (term l (kinds (ahead p))) (Err f) f n (kinds (ahead p)) refl
    (ap (λ (ks : List Tok). term l ks) k ∙ h (kinds (left p.tokens)) ∙ ap (λ (ks : List Tok). Err (n, ks)) (sym k))
    (here p f n d)

pub missing : (l : ℕ) (p q : Parser) (f : ExpressionFault) → placed p.token ≡ None
    → described f ≡ refused 14 p.number (place p.token) → Outcome postfix p q (Err f) (term l (kinds (ahead p)))
missing l p q f s d =
    let k = end_is p s in
    refuses postfix p q (term l (kinds (ahead p))) (Err f) f 14 (kinds (ahead p)) refl
    (ap (λ (ks : List Tok). term l ks) k ∙ wrong_end l ∙ ap (λ (ks : List Tok). Err (14, ks)) (sym k))
    (here p f 14 d)

-- `defined`, which gives no step itself
pub behind_defined : (l : ℕ) (p q r : Parser) (at : ℕ) (y : Answer) → placed p.token ≡ Some (defined, at) → Advanced p q
    → Outcome postfix q r y (name_due (kinds (ahead q))) → Outcome postfix p r y (term l (kinds (ahead p)))
behind_defined l p q r at y s a o =
    subst (λ (z : Out). Outcome postfix p r y z) (sym (ap (λ (ks : List Tok). term l ks) (head_is p q defined at s a) ∙ term_defined l (kinds (ahead q)))) (wider (name_due (kinds (ahead q))) y o)
  where
    wider : (z : Out) (y : Answer) → Outcome postfix q r y z → Outcome postfix p r y z
    wider (Ok b) (Ok u) d = record { past = a.0 ∷ d.past; run = then a.1 d.run; few = omega (arith, d.few); rest = d.rest }
    wider (Ok b) (Err f) d = absurd d
    wider (Err g) (Ok u) d = absurd d
    wider (Err g) (Err f) d = later a.1 d

-- `!`
module _ (l : ℕ) (p q : Parser) (at : ℕ) (h : 0 < l) (s : placed p.token ≡ Some (not, at)) (a : Advanced p q) where
  not_term : after (term (l - 1) (kinds (ahead q))) (λ e s. Ok (neg e, s)) ≡ term l (kinds (ahead p))
  not_term = sym (ap (λ (ks : List Tok). term l ks) (head_is p q not at s a) ∙ term_not l (kinds (ahead q)) h)

  pub negated : (r t : Parser) (u : Unit {0}) → Outcome postfix q r (Ok u) (term (l - 1) (kinds (ahead q))) → Run r t [] (not-item ∷ [])
      → Outcome postfix p t (Ok tt) (term l (kinds (ahead p)))
  negated r t u o b =
      let z = term (l - 1) (kinds (ahead q)) in
      let d = was_read postfix q r z u o in
      subst (λ (z : Out). Outcome postfix p t (Ok tt) z) not_term
      (reads postfix p t (after z (λ e s. Ok (neg e, s))) (neg d.0) d.1 (ap (λ (z : Out). after z (λ e s. Ok (neg e, s))) d.2)
      (record {
        past = a.0 ∷ (d.3.past ++ []);
        run = then a.1 (then d.3.run b);
        few = omega (arith, d.3.few, length-append d.3.past [], length-append (postfix d.0) (not-item ∷ []));
        rest = ap kinds (sym b.ahead) ∙ d.3.rest;
      }))

  pub not_refused : (r : Parser) (y : Answer) (f : ExpressionFault) → y ≡ Err f → Outcome postfix q r (Err f) (term (l - 1) (kinds (ahead q)))
      → Outcome postfix p r y (term l (kinds (ahead p)))
  not_refused r y f k o =
      subst (λ (z : Out). Outcome postfix p r y z) not_term
      (through postfix p q r r (term (l - 1) (kinds (ahead q))) (λ e s. Ok (neg e, s)) y f a k o)

-- `(`
module _ (l : ℕ) (p q : Parser) (at : ℕ) (h : 0 < l) (s : placed p.token ≡ Some (opened, at)) (a : Advanced p q) where
  open_term : after (expr (l - 1) (kinds (ahead q))) closing ≡ term l (kinds (ahead p))
  open_term = sym (ap (λ (ks : List Tok). term l ks) (head_is p q opened at s a) ∙ term_open l (kinds (ahead q)) h)

  pub grouped : (r t : Parser) (u : Unit {0}) (y : Answer) → Outcome postfix q r (Ok u) (expr (l - 1) (kinds (ahead q)))
      → ((e : Expr) → Outcome (λ _. []) r t y (closing e (kinds (ahead r)))) → Outcome postfix p t y (term l (kinds (ahead p)))
  grouped r t u y o c = subst (λ (z : Out). Outcome postfix p t y z) open_term (group p q r t (expr (l - 1) (kinds (ahead q))) u y a o c)

  pub open_refused : (r : Parser) (y : Answer) (f : ExpressionFault) → y ≡ Err f → Outcome postfix q r (Err f) (expr (l - 1) (kinds (ahead q)))
      → Outcome postfix p r y (term l (kinds (ahead p)))
  open_refused r y f k o = subst (λ (z : Out). Outcome postfix p r y z) open_term (through postfix p q r r (expr (l - 1) (kinds (ahead q))) closing y f a k o)

-- a token that begins no term, or none
pub unfit : (l : ℕ) (p q : Parser) (f : ExpressionFault)
    → ((x : Part) × (p.token ≡ And x)) ⊎ (((x : Part) × (p.token ≡ Or x)) ⊎ (((x : Part) × (p.token ≡ Close x)) ⊎ (((x : Part) × (p.token ≡ Other x)) ⊎ ((x : Part) × (p.token ≡ End x)))))
    → described f ≡ refused 14 p.number (place p.token) → Outcome postfix p q (Err f) (term l (kinds (ahead p)))
unfit l p q f (inl e) d = wrong l p q and e.0.at 14 f (ap placed e.1) (wrong_and l) d
unfit l p q f (inr (inl e)) d = wrong l p q or e.0.at 14 f (ap placed e.1) (wrong_or l) d
unfit l p q f (inr (inr (inl e))) d = wrong l p q closed e.0.at 14 f (ap placed e.1) (wrong_close l) d
unfit l p q f (inr (inr (inr (inl e)))) d = wrong l p q other e.0.at 14 f (ap placed e.1) (wrong_other l) d
unfit l p q f (inr (inr (inr (inr e)))) d = missing l p q f (ap placed e.1) d

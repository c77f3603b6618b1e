-- The parts of an expression as the parser reads them, against the grammar.
use Rattle.std.proofs.Common.{append-nil, ◌≡◌, ℕ, suc, ◌+◌, ◌<◌, ◌≤◌, Bool, true, false, cond, List, [], ◌∷◌, ◌++◌, length, IsErrAnd, Some, None, Ok, Err, Option, Result, sym, refl, ap, ◌∙◌, subst, ap₂, append_assoc, arith, length-append}
use Rattle.std.proofs.lemmas.Result.{err_from_is_err_and}
use Rattle.std.proofs.lemmas.List.{length-map}
use Rattle.text.specs.Tokens.{Bytes, Tok, nought, unit, defined, not, and, or, opened, closed, name, other, Placed}
use Rattle.text.specs.Pulling.{placed, place, left, place_or}
use Rattle.text.specs.declared.scanner.Part.{Part}
use Rattle.text.specs.declared.scanner.Token.TheVariants.{Name}
use Rattle.expressions.specs.Grammar.{Expr, named, is_close, Out, after, closing, inside, name_due}
use Rattle.expressions.specs.Conditions.{kinds, Item, item, postfix}
use Rattle.expressions.specs.Faults.{refused, described}
use Rattle.parser.specs.Ahead.{before}
use Rattle.parser.specs.Parsing.{name_first, ahead, written, Run, Advanced, Read, Refused, Outcome}
use Rattle.expressions.specs.declared.condition.Step.TheVariants.{Defined}
use Rattle.expressions.specs.declared.fault.ExpressionFault.{ExpressionFault}
use Rattle.parser.specs.declared.descent.Parser.{Parser}

abbrev Answer : Type 0
Answer = Result (Unit {0}) ExpressionFault

pub then : {p q r : Parser} {s t : List Placed} {is js : List Item} → Run p q s is → Run q r t js → Run p r (s ++ t) (is ++ js)
then {p} {q} {r} {s} {t} {is} {js} a b = record {
  line = b.line ∙ a.line;
  number = b.number ∙ a.number;
  ahead = a.ahead ∙ ap (λ (z : List Placed). s ++ z) b.ahead ∙ sym (append_assoc s t (ahead r));
  written = b.written ∙ ap (λ (z : List Item). z ++ js) a.written ∙ append_assoc (written p) is js;
}

-- what the exit of a `?` answers
pub exits : {A : Type 0} (y : Result A ExpressionFault) (f : ExpressionFault) → IsErrAnd y (λ g. g ≡ f) → y ≡ Err f
exits y f h = let p = err_from_is_err_and y h in p.1 ∙ ap Err p.2

-- refused at the first token ahead, or later
pub here : (p : Parser) (f : ExpressionFault) (n : ℕ) → described f ≡ refused n p.number (place p.token) → Refused p f n (kinds (ahead p))
here p f n e = record { past = []; behind = ahead p; split = refl; rest = refl; fault = e ∙ ap (λ (b : ℕ). refused n p.number b) p.at }

pub later : {p q : Parser} {s : List Placed} {is : List Item} {f : ExpressionFault} {n : ℕ} {r : List Tok} → Run p q s is → Refused q f n r → Refused p f n r
later {p} {q} {s} {is} {f} {n} {r} a b = record {
  past = s ++ b.past;
  behind = b.behind;
  split = a.ahead ∙ ap (λ (z : List Placed). s ++ z) b.split ∙ sym (append_assoc s b.past b.behind);
  rest = b.rest;
  fault = b.fault ∙ ap₂ (λ (m : ℕ) (l : Bytes). refused n m (place_or (suc (length l)) b.behind)) a.number a.line;
}

-- what an answer says
module _ (w : Expr → List Item) (p q : Parser) (z : Out) where
  pub was_read : (u : Unit {0}) → Outcome w p q (Ok u) z → (e : Expr) × (r : List Tok) × (z ≡ Ok (e, r)) × Read w p q e r
  was_read u o = go z o
    where
      go : (z : Out) → Outcome w p q (Ok u) z → (e : Expr) × (r : List Tok) × (z ≡ Ok (e, r)) × Read w p q e r
      go (Ok a) o = (a.0, a.1, refl, o)
      go (Err g) o = absurd o

  pub was_refused : (f : ExpressionFault) → Outcome w p q (Err f) z → (n : ℕ) × (r : List Tok) × (z ≡ Err (n, r)) × Refused p f n r
  was_refused f o = go z o
    where
      go : (z : Out) → Outcome w p q (Err f) z → (n : ℕ) × (r : List Tok) × (z ≡ Err (n, r)) × Refused p f n r
      go (Ok a) o = absurd o
      go (Err g) o = (g.0, g.1, refl, o)

  pub reads : (e : Expr) (r : List Tok) → z ≡ Ok (e, r) → Read w p q e r → Outcome w p q (Ok tt) z
  reads e r h d = subst (Outcome w p q (Ok tt)) (sym h) d

  pub refuses : (y : Answer) (f : ExpressionFault) (n : ℕ) (r : List Tok) → y ≡ Err f → z ≡ Err (n, r) → Refused p f n r → Outcome w p q y z
  refuses y f n r k h d = subst (λ (y : Answer). Outcome w p q y z) (sym k) (subst (Outcome w p q (Err f)) (sym h) d)

pub advanced_kinds : (p q : Parser) (x : Placed) → Run p q (x ∷ []) [] → kinds (ahead p) ≡ x.0 ∷ kinds (ahead q)
advanced_kinds p q x a = ap kinds a.ahead

-- the current token is of the sort t
pub head_is : (p q : Parser) (t : Tok) (at : ℕ) → placed p.token ≡ Some (t, at) → Advanced p q → kinds (ahead p) ≡ t ∷ kinds (ahead q)
head_is p q t at e a =
    let k : ahead p ≡ (t, at) ∷ left p.tokens = ap (λ (o : Option Placed). before o (left p.tokens)) e in
    let m : ahead p ≡ a.0 ∷ ahead q = a.1.ahead in
    let n : ahead q ≡ left p.tokens = cc in
    ap kinds k ∙ ap (λ (ps : List Placed). t ∷ kinds ps) (sym n)

pub token_is : (p : Parser) (t : Tok) (at : ℕ) → placed p.token ≡ Some (t, at) → kinds (ahead p) ≡ t ∷ kinds (left p.tokens)
token_is p t at e = ap (λ (o : Option Placed). kinds (before o (left p.tokens))) e

pub end_is : (p : Parser) → placed p.token ≡ None → kinds (ahead p) ≡ []
end_is p e = ap (λ (o : Option Placed). kinds (before o (left p.tokens))) e

length_items : (p : Parser) → length (written p) ≡ length p.steps.items
length_items p = length-map p.steps.items item

-- behind a token there is room for a step, and behind what it leads there is too
pub room_behind : (p q : Parser) → Advanced p q → length q.steps.items + length (ahead q) < 255
room_behind p q a = omega (arith, p.room, length_items p, length_items q, ap length a.1.ahead, ap length a.1.written, length-append (written p) [])

pub room_later : (p q r : Parser) (z : Out) (u : Unit {0}) → Advanced p q → Outcome postfix q r (Ok u) z → length r.steps.items + length (ahead r) < 255
room_later p q r z u a o =
    let w = was_read postfix q r z u o in
    let d = w.3 in
    omega (
      arith,
      room_behind p q a,
      d.few,
      length_items q,
      length_items r,
      ap length d.run.written,
      length-append (written q) (postfix w.0),
      ap length d.run.ahead,
      length-append d.past (ahead r),
    )

-- what was read before goes with the parenthesis
with_close : (p r s : Parser) (e : Expr) (ks : List Tok) (y : Answer) (past : List Placed) → Run p r past (postfix e) → length (postfix e) ≤ length past
    → Outcome (λ _. []) r s y (closing e ks) → Outcome postfix p s y (closing e ks)
with_close p r s e [] (Ok u) past a h o = absurd o
with_close p r s e [] (Err f) past a h o = later a o
with_close p r s e (t ∷ ks) y past a h o = go (is_close t) y o
  where
    go : (b : Bool) (y : Answer) → Outcome (λ _. []) r s y (cond b (Ok (e, ks)) (Err (14, t ∷ ks))) → Outcome postfix p s y (cond b (Ok (e, ks)) (Err (14, t ∷ ks)))
    go true (Ok u) o =
        record {
          past = past ++ o.past;
          run = subst (Run p s (past ++ o.past)) (append-nil (postfix e)) (then a o.run);
          few = omega (arith, h, length-append past o.past);
          rest = o.rest;
        }
    go true (Err f) o = absurd o
    go false (Ok u) o = absurd o
    go false (Err f) o = later a o

pub group : (p q r s : Parser) (z : Out) (u : Unit {0}) (y : Answer) → Advanced p q → Outcome postfix q r (Ok u) z
    → ((e : Expr) → Outcome (λ _. []) r s y (closing e (kinds (ahead r)))) → Outcome postfix p s y (after z closing)
group p q r s z u y a o c =
    let d = was_read postfix q r z u o in
    let e = d.0 in
    let k : Outcome (λ _. []) r s y (closing e d.1) = subst (λ (ks : List Tok). Outcome (λ _. []) r s y (closing e ks)) d.3.rest (c e) in
    subst (λ (z : Out). Outcome postfix p s y (after z closing)) (sym d.2)
    (with_close p r s e d.1 y (a.0 ∷ d.3.past) (then a.1 d.3.run) (omega (arith, d.3.few)) k)

-- a refusal goes through
pub through : (w : Expr → List Item) (p q r s : Parser) (z : Out) (k : Expr → List Tok → Out) (y : Answer) (f : ExpressionFault) → Advanced p q → y ≡ Err f
    → Outcome w q r (Err f) z → Outcome postfix p s y (after z k)
through w p q r s z k y f a h o =
    let d = was_refused w q r z f o in
    refuses postfix p s (after z k) y f d.0 d.1 h (ap (λ (z : Out). after z k) d.2) (later a.1 d.3)

-- A name.
pub name_yes : (p q r : Parser) (part : Part) → p.token ≡ Name part → Advanced p q
    → Run q r [] (item (Defined part.text) ∷ [])
    → Outcome postfix p r (Ok tt) (name_first (kinds (ahead p)))
name_yes p q r part t a b =
    let x = part.text.now in
    let k : kinds (ahead p) ≡ name x ∷ kinds (ahead q) = head_is p q (name x) part.at (ap placed t) a in
    reads postfix p r (name_first (kinds (ahead p))) (named x) (kinds (ahead r))
    (ap name_first k ∙ ap (λ (ps : List Placed). Ok (named x, kinds ps)) b.ahead)
    (record { past = a.0 ∷ []; run = then a.1 b; few = omega arith; rest = refl })

-- What stands behind `defined`.
inside_is : (ks : List Tok) → inside ks ≡ after (name_first ks) closing
inside_is [] = refl
inside_is (nought ∷ r) = refl
inside_is (unit ∷ r) = refl
inside_is (defined ∷ r) = refl
inside_is (not ∷ r) = refl
inside_is (and ∷ r) = refl
inside_is (or ∷ r) = refl
inside_is (opened ∷ r) = refl
inside_is (closed ∷ r) = refl
inside_is (name x ∷ r) = refl
inside_is (other ∷ r) = refl

pub due_wrapped : (p q : Parser) (at : ℕ) → placed p.token ≡ Some (opened, at) → Advanced p q → after (name_first (kinds (ahead q))) closing ≡ name_due (kinds (ahead p))
due_wrapped p q at s a = sym (ap name_due (head_is p q opened at s a) ∙ inside_is (kinds (ahead q)))

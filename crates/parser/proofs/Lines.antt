-- A whole line: its parser at first, and what its answer says of the definitions and of the grammar.
use Rattle.std.proofs.Common.{Bor, ◌+◌, ◌≡◌, ℕ, suc, ◌-◌, ◌≤◌, true, false, List, [], ◌∷◌, ◌++◌, length, take, drop, Ok, Err, Result, sym, refl, ap, ◌∙◌, subst, ap₂, arith, length-append}
use Rattle.text.specs.Tokens.{Bytes, Tok, Placed, tokens_at}
use Rattle.text.specs.Pulling.{placed, place, bytes, left, Pulls}
use Rattle.text.specs.declared.scanner.Token.{Token}
use Rattle.text.specs.declared.scanner.Tokens.{Tokens}
use Rattle.expressions.specs.Grammar.{Expr, expr, finished, parsed}
use Rattle.expressions.specs.Derived.{GoesOn, Stops, Number}
use Rattle.expressions.specs.Conditions.{kinds, place_or, located, Item, items, postfix}
use Rattle.expressions.specs.Faults.{refused, described}
use Rattle.parser.specs.Ahead.{from}
use Rattle.parser.specs.Parsing.{ahead, line_of, written, Refused, Outcome, Completed}
use Rattle.expressions.specs.Answers.{Answered, Conforms}
use Rattle.expressions.specs.declared.condition.Step.{Step}
use Rattle.expressions.specs.declared.operand.Operand.{Operand}
use Rattle.arrayvec.specs.ArrayVec.{ArrayVec}
use Rattle.expressions.specs.declared.condition.Condition.{Condition}
use Rattle.expressions.specs.declared.fault.ExpressionFault.{ExpressionFault}
use Rattle.parser.specs.declared.descent.Parser.{Parser}
use Rattle.expressions.proofs.Laws.{exact, at_first, numbered, never_both, front_only}
use Rattle.text.proofs.Fuel.{tokens_length}
use Rattle.parser.proofs.Moves.{pulled}
use Rattle.parser.proofs.Parts.{here, later, was_read, was_refused}
use Rattle.parser.proofs.Loops.{length_kinds}
use Rattle.parser.proofs.Moves.{none_left}

-- the first token t of an operand
module _ (o : Operand) (tk₀ tk : Tokens) (t : Token) (v : ArrayVec Step) (few : length o.line.now ≤ 255) (none : v.items ≡ [])
    (all : left tk₀ ≡ tokens_at o.comments o.line.now o.from) (line₁ : tk.line ≡ tk₀.line)
    (pulls : Pulls (placed t) (left tk₀) (left tk)) where
  first_ahead : from t tk ≡ left tk₀
  first_ahead = pulled (placed t) (left tk₀) (left tk) pulls

  pub fresh_ahead : from t tk ≡ tokens_at o.comments o.line.now o.from
  fresh_ahead = first_ahead ∙ all

  pub fresh_at : place t ≡ place_or (suc (length tk₀.line.now)) (left tk₀) → place t ≡ place_or (suc (length tk.line.now)) (from t tk)
  fresh_at at = at ∙ ap₂ (λ (b : Bytes) (z : List Placed). place_or (suc (length b)) z) (ap (λ r. r.now) (sym line₁)) (sym first_ahead)

  pub fresh_part : bytes t ≡ take (length (bytes t)) (drop (place t - 1) tk₀.line.now) → bytes t ≡ take (length (bytes t)) (drop (place t - 1) tk.line.now)
  fresh_part part = part ∙ ap (λ (b : Bor Bytes). take (length (bytes t)) (drop (place t - 1) b.now)) (sym line₁)

  pub fresh_room : length v.items + length (from t tk) ≤ 255
  fresh_room = omega (arith, ap length fresh_ahead, ap length none, tokens_length o.comments o.line.now o.from)

-- all that is ahead
finished_none : (e : Expr) (ps : List Placed) → none_left ps ≡ true → finished (Ok (e, kinds ps)) ≡ Ok e
finished_none e [] h = refl
finished_none e (x ∷ ps) h = cc

finished_some : (e : Expr) (ps : List Placed) → none_left ps ≡ false → finished (Ok (e, kinds ps)) ≡ Err (14, kinds ps)
finished_some e [] h = cc
finished_some e (x ∷ ps) h = refl

module _ (p q : Parser) where
  pub completed : (u : Unit {0}) → Outcome postfix p q (Ok u) (expr 16 (kinds (ahead p))) → none_left (ahead q) ≡ true → Completed p q (Ok tt) (parsed (kinds (ahead p)))
  completed u o h =
      let w = was_read postfix p q (expr 16 (kinds (ahead p))) u o in
      let k : parsed (kinds (ahead p)) ≡ Ok w.0 = ap finished (w.2 ∙ ap (λ (r : List Tok). Ok (w.0, r)) (sym w.3.rest)) ∙ finished_none w.0 (ahead q) h in
      subst (λ (z : Result Expr (ℕ × List Tok)). Completed p q (Ok tt) z) (sym k) (w.3.run.line, w.3.run.written)

  pub not_ended : (u : Unit {0}) (f : ExpressionFault) → Outcome postfix p q (Ok u) (expr 16 (kinds (ahead p))) → none_left (ahead q) ≡ false
      → described f ≡ refused 14 q.number (place q.token) → Completed p q (Err f) (parsed (kinds (ahead p)))
  not_ended u f o h d =
      let w = was_read postfix p q (expr 16 (kinds (ahead p))) u o in
      let k : parsed (kinds (ahead p)) ≡ Err (14, kinds (ahead q)) = ap finished (w.2 ∙ ap (λ (r : List Tok). Ok (w.0, r)) (sym w.3.rest)) ∙ finished_some w.0 (ahead q) h in
      subst (λ (z : Result Expr (ℕ × List Tok)). Completed p q (Err f) z) (sym k) (later w.3.run (here q f 14 d))

  pub not_read : (y : Result (Unit {0}) ExpressionFault) (f : ExpressionFault) → y ≡ Err f → Outcome postfix p q (Err f) (expr 16 (kinds (ahead p)))
      → Completed p q y (parsed (kinds (ahead p)))
  not_read y f h o =
      let w = was_refused postfix p q (expr 16 (kinds (ahead p))) f o in
      subst (λ (y : Result (Unit {0}) ExpressionFault). Completed p q y (parsed (kinds (ahead p)))) (sym h)
      (subst (λ (z : Result Expr (ℕ × List Tok)). Completed p q (Err f) z) (sym (ap finished w.2)) w.3)

-- what is left of the tokens is their end
tail_is : (s r : List Placed) → drop (length (s ++ r) - length r) (s ++ r) ≡ r
tail_is s r = let e : length (s ++ r) - length r ≡ length s = omega (arith, length-append s r) in ap (λ (n : ℕ). drop n (s ++ r)) e ∙ go s
  where
    go : (s : List Placed) → drop (length s) (s ++ r) ≡ r
    go [] = refl
    go (x ∷ s) = go s

kinds_append : (s r : List Placed) → kinds (s ++ r) ≡ kinds s ++ kinds r
kinds_append [] r = refl
kinds_append (x ∷ s) r = ap (λ (z : List Tok). x.0 ∷ z) (kinds_append s r)

-- The line l, its tokens ts, and its parser p before them and q behind.
module _ (l : Bytes) (ts : List Placed) (n : ℕ) (p q : Parser) (tokens : ahead p ≡ ts) (same : line_of p ≡ l) (num : p.number ≡ n) (none : written p ≡ []) where
  done : (z : Result Expr (ℕ × List Tok)) → Completed p q (Ok tt) z → (e : Expr) × (z ≡ Ok e) × (written q ≡ postfix e)
  done (Ok e) o = (e, refl, o.1 ∙ ap (λ (s : List Item). s ++ postfix e) none)
  done (Err g) o = absurd o

  parsed_is : parsed (kinds (ahead p)) ≡ parsed (kinds ts)
  parsed_is = ap (λ (ps : List Placed). parsed (kinds ps)) tokens

  module _ (k : Condition) (steps : items k.steps.items ≡ written q) (line : k.line.now ≡ l) (o : Completed p q (Ok tt) (parsed (kinds (ahead p)))) where
    pub answered : Answered l n (located (suc (length l)) ts (parsed (kinds ts))) (Ok k)
    answered =
        let d = done (parsed (kinds (ahead p))) o in
        subst (λ (z : Result Expr (ℕ × List Tok)). Answered l n (located (suc (length l)) ts z) (Ok k)) (sym (sym parsed_is ∙ d.1)) (line, steps ∙ d.2)

    pub conforms : Conforms l ts (Ok k)
    conforms =
        let d = done (parsed (kinds (ahead p))) o in
        (d.0, (exact (kinds ts) d.0).0 (sym parsed_is ∙ d.1), steps ∙ d.2)

  module _ (f : ExpressionFault) (o : Completed p q (Err f) (parsed (kinds (ahead p)))) where
    stopped : (z : Result Expr (ℕ × List Tok)) → Completed p q (Err f) z → (m : ℕ) × (r : List Tok) × (z ≡ Err (m, r)) × Refused p f m r
    stopped (Ok e) o = absurd o
    stopped (Err g) o = (g.0, g.1, refl, o)

    -- where it stops
    abbrev at-token : (m : ℕ) × (r : List Tok) × (parsed (kinds (ahead p)) ≡ Err (m, r)) × Refused p f m r
    at-token = stopped (parsed (kinds (ahead p))) o

    split : ts ≡ at-token.3.past ++ at-token.3.behind
    split = sym tokens ∙ at-token.3.split

    parse : parsed (kinds ts) ≡ Err (at-token.0, kinds at-token.3.behind)
    parse = sym parsed_is ∙ at-token.2 ∙ ap (λ (r : List Tok). Err (at-token.0, r)) (sym at-token.3.rest)

    fault : described f ≡ refused at-token.0 n (place_or (suc (length l)) at-token.3.behind)
    fault =
        at-token.3.fault
        ∙ ap₂ (λ (m : ℕ) (b : Bytes). refused at-token.0 m (place_or (suc (length b)) at-token.3.behind)) num same

    pub refused_answer : Answered l n (located (suc (length l)) ts (parsed (kinds ts))) (Err f)
    refused_answer =
        let from = at-token.3.behind in
        let few : length ts - length (kinds from) ≡ length (at-token.3.past ++ from) - length from = omega (arith, ap length split, length_kinds from) in
        let e : drop (length ts - length (kinds from)) ts ≡ from =
        ap₂ (λ (m : ℕ) (ps : List Placed). drop m ps) few split ∙ tail_is at-token.3.past from in
        subst (λ (z : Result Expr (ℕ × List Tok)). Answered l n (located (suc (length l)) ts z) (Err f)) (sym parse)
        (fault ∙ ap (λ (ps : List Placed). refused at-token.0 n (place_or (suc (length l)) ps)) (sym e))

    pub refused_place : Conforms l ts (Err f)
    refused_place =
        let past = at-token.3.past in
        let from = at-token.3.behind in
        let m = at-token.0 in
        let cut : kinds ts ≡ kinds past ++ kinds from = ap kinds split ∙ kinds_append past from in
        let a = at_first (kinds ts) m (kinds from) parse in
        let u : a.0 ≡ kinds past = front_only a.0 (kinds past) (kinds from) (sym a.1 ∙ cut) in
        let num : m ≡ (described f).number = ap (λ r. r.number) (sym fault) in (
          never_both (kinds ts) (m, kinds from) parse,
          record {
            past = past;
            from = from;
            split = split;
            goes = subst GoesOn u a.2;
            stops = subst (λ (m : ℕ). Stops (kinds past) m (kinds from)) num (subst (λ (u : List Tok). Stops u m (kinds from)) u a.3);
            number = subst (λ (m : ℕ). Number (kinds past) m (kinds from)) num (numbered (kinds past) m (kinds from) (ap (λ (z : List Tok). parsed z) (sym cut) ∙ parse));
            place = ap (λ r. r.byte) fault;
          },
        )

use Rattle.std.proofs.Common.{◌≡◌, Err, Result, sym, refl, subst, arith}
use Rattle.text.specs.Tokens.{tokens_at}
use Rattle.expressions.specs.declared.condition.Condition.{Condition}
use Rattle.expressions.specs.declared.fault.ExpressionFault.{ExpressionFault}
use Rattle.expressions.specs.Conditions.{condition_at}
use Rattle.expressions.specs.Answers.{Answered, Conforms}
use Rattle.expressions.proofs.Laws.{exact, one_only, at_first, numbered, examples}
use Rattle.parser.proofs.Parts.{exits}
use Rattle.parser.proofs.Lines.{answered, conforms, refused_answer, refused_place}
use Rattle.parser.proofs.condition.Goals as goal

pub returns-in_err-parser-clause-exact : goal.returns-in_err-parser-clause-exact
returns-in_err-parser-clause-exact c = exact

pub returns-in_err-parser-clause-one : goal.returns-in_err-parser-clause-one
returns-in_err-parser-clause-one c = one_only

pub returns-in_err-parser-clause-place : goal.returns-in_err-parser-clause-place
returns-in_err-parser-clause-place c = at_first

pub returns-in_err-parser-clause-number : goal.returns-in_err-parser-clause-number
returns-in_err-parser-clause-number c = numbered

pub returns-in_err-complete : goal.returns-in_err-complete
returns-in_err-complete c =
    let o = c.args.operand in
    let b = c.in_ok-parser.ensures.begun.1 in
    let f = c.in_err-complete.field-0.0 in
    let e : c.from_residual-in_err-complete.result ≡ Err f = exits c.from_residual-in_err-complete.result f c.from_residual-in_err-complete.ensures.1 in
    record {
      long = λ h. absurd (omega (arith, c.in_ok-parser.ensures.begun.0));
      reads = λ h.
          subst (λ (y : Result Condition ExpressionFault). Answered o.line.now o.number (condition_at o.comments o.line.now o.from) y) (sym e)
          (refused_answer o.line.now (tokens_at o.comments o.line.now o.from) o.number c.in_ok-parser.parser c.complete.new.self
          b.ahead b.line b.number b.written f c.in_err-complete.ensures);
      grammar = λ h.
          subst (λ (y : Result Condition ExpressionFault). Conforms o.line.now (tokens_at o.comments o.line.now o.from) y) (sym e)
          (refused_place o.line.now (tokens_at o.comments o.line.now o.from) o.number c.in_ok-parser.parser c.complete.new.self
          b.ahead b.line b.number b.written f c.in_err-complete.ensures);
      exact = exact;
      one = one_only;
      place = at_first;
      number = numbered;
      examples = examples;
    }

pub returns : goal.returns
returns c =
    let o = c.args.operand in
    let b = c.in_ok-parser.ensures.begun.1 in
    record {
      long = λ h. absurd (omega (arith, c.in_ok-parser.ensures.begun.0));
      reads = λ h.
          answered o.line.now (tokens_at o.comments o.line.now o.from) o.number c.in_ok-parser.parser c.complete.new.self
          b.ahead b.line b.number b.written (record { line = o.line; steps = c.complete.new.self.steps }) refl refl c.in_ok-complete.ensures;
      grammar = λ h.
          conforms o.line.now (tokens_at o.comments o.line.now o.from) o.number c.in_ok-parser.parser c.complete.new.self
          b.ahead b.line b.number b.written (record { line = o.line; steps = c.complete.new.self.steps }) refl refl c.in_ok-complete.ensures;
      exact = exact;
      one = one_only;
      place = at_first;
      number = numbered;
      examples = examples;
    }

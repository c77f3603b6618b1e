use Rattle.std.proofs.Common.{ap, subst}
use Rattle.expressions.specs.Grammar.{Out, closing}
use Rattle.expressions.specs.Conditions.{kinds, postfix}
use Rattle.text.specs.Pulling.{placed}
use Rattle.parser.specs.Parsing.{ahead, name_first, Outcome}
use Rattle.parser.proofs.Parts.{exits, group, through, due_wrapped}
use Rattle.parser.proofs.descent.Parser.defined.Goals as goal

pub returns-in_err-name-in-Open : goal.returns-in_err-name-in-Open
returns-in_err-name-in-Open c =
    subst (λ (z : Out). Outcome postfix c.args.self.now c.name.new.self c.from_residual.result z)
    (due_wrapped c.args.self.now c.advance.new.self c.in-Open.field-0.at (ap placed c.in-Open.is) c.advance.ensures)
    (through postfix c.args.self.now c.advance.new.self c.name.new.self c.name.new.self (name_first (kinds (ahead c.advance.new.self))) closing
    c.from_residual.result c.in_err-name-in-Open.field-0.0 c.advance.ensures (exits c.from_residual.result c.in_err-name-in-Open.field-0.0 c.from_residual.ensures.1) c.in_err-name-in-Open.ensures)

pub returns-in_ok-name-in-Open : goal.returns-in_ok-name-in-Open
returns-in_ok-name-in-Open c =
    subst (λ (z : Out). Outcome postfix c.args.self.now c.close.new.self c.close.result z)
    (due_wrapped c.args.self.now c.advance.new.self c.in-Open.field-0.at (ap placed c.in-Open.is) c.advance.ensures)
    (group c.args.self.now c.advance.new.self c.name.new.self c.close.new.self (name_first (kinds (ahead c.advance.new.self))) tt
    c.close.result c.advance.ensures c.in_ok-name-in-Open.ensures c.close.ensures)

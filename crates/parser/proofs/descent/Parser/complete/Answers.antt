use Rattle.std.proofs.Common.{ap}
use Rattle.expressions.specs.Faults.{described}
use Rattle.text.specs.Pulling.{placed}
use Rattle.parser.proofs.Parts.{exits}
use Rattle.parser.proofs.Moves.{not_end, none_ahead}
use Rattle.parser.proofs.Lines.{completed, not_ended, not_read}
use Rattle.parser.proofs.descent.Parser.complete.Goals as goal

pub returns-in_err-expression : goal.returns-in_err-expression
returns-in_err-expression c =
    not_read c.args.self.now c.expression.new.self c.from_residual.result c.in_err-expression.field-0.0
    (exits c.from_residual.result c.in_err-expression.field-0.0 c.from_residual.ensures.1) c.in_err-expression.ensures

pub returns-in-End : goal.returns-in-End
returns-in-End c = completed c.args.self.now c.expression.new.self tt c.in_ok-expression.ensures (none_ahead c.expression.new.self (ap placed c.in-End.is))

pub returns-in_default : goal.returns-in_default
returns-in_default c =
    not_ended c.args.self.now c.expression.new.self tt c.fault.result c.in_ok-expression.ensures (not_end c.expression.new.self.token _ c.in_default.not-End)
    (ap described c.fault.ensures)

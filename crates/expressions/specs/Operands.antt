-- What stands in a line from an offset on, as an operand has it. Assumes nothing.
--   tokens_in o        its tokens
--   Short o            its line has at most 255 bytes
--   RefusesLong o r    where its line has more, the answer r is the refusal of that
use Rattle.std.specs.Prelude.{◌≡◌, ◌<◌, ◌≤◌, List, length, Err, Result}
use Rattle.text.specs.Tokens.{Placed, tokens_at}
use Rattle.expressions.specs.declared.operand.Operand.{Operand}
use Rattle.expressions.specs.declared.fault.ExpressionFault.{ExpressionFault}
use Rattle.expressions.specs.declared.fault.ExpressionFault.TheVariants.{LineTooLong}

abbrev pub tokens_in : Operand → List Placed
tokens_in o = tokens_at o.comments o.line.now o.from

abbrev pub Short : Operand → Type 0
Short o = length o.line.now ≤ 255

abbrev pub RefusesLong : {A : Type 0} → Operand → Result A ExpressionFault → Type 0
RefusesLong o r = 255 < length o.line.now → r ≡ Err (LineTooLong o.number)

-- The numbers of the faults of a line with a condition. Assumes nothing.
--   refused n l b   the refusal n of an expression at byte b of line l
--   reason_number r  the number of a token's fault
--   described f     the refusal that the fault f is
use Rattle.std.specs.Prelude.{ℕ}
use Rattle.faults.specs.declared.Refusal.{Refusal}
use Rattle.faults.specs.declared.Layer.TheVariants.{Lines, Expression}
use Rattle.expressions.specs.declared.fault.ExpressionFault.{ExpressionFault}
use Rattle.expressions.specs.declared.fault.ExpressionFault.TheVariants.{LineTooLong, Token}
use Rattle.expressions.specs.declared.fault.TokenFault.{TokenFault}
use Rattle.expressions.specs.declared.fault.TokenFault.TheVariants.{NameDue, WrongToken, BareName, TooDeep}

abbrev pub refused : ℕ → ℕ → ℕ → Refusal
refused number line byte = record { number = number; layer = Expression; line = line; byte = byte }

abbrev pub reason_number : TokenFault → ℕ
reason_number NameDue = 13
reason_number WrongToken = 14
reason_number BareName = 15
reason_number TooDeep = 16

abbrev pub described : ExpressionFault → Refusal
described (LineTooLong line) = record { number = 12; layer = Lines; line = line; byte = 0 }
described (Token reason line byte) = refused (reason_number reason) line byte

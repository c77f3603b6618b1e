-- What is read of a line, with the refusal as it is told: the line's length first, then what its tokens say. Assumes nothing.
--   on_line l z        z, with its refusal (a number and a byte) told as one of line l
--   read_in line l z   number 12 where the line has more than 255 bytes, else the same
--   unless o          nothing is read, unless o is a refusal
use Rattle.std.specs.Prelude.{ℕ, cond, length, Some, None, Ok, Err, Option, Result, nat_lt}
use Rattle.faults.specs.declared.Refusal.{Refusal}
use Rattle.text.specs.Tokens.{Bytes}
use Rattle.expressions.specs.Faults.{described, refused}
use Rattle.expressions.specs.declared.fault.ExpressionFault.TheVariants.{LineTooLong}

abbrev pub on_line : {A : Type 0} → ℕ → Result A (ℕ × ℕ) → Result A Refusal
on_line l (Ok a) = Ok a
on_line l (Err f) = Err (refused f.0 l f.1)

abbrev pub read_in : {A : Type 0} → Bytes → ℕ → Result A (ℕ × ℕ) → Result A Refusal
read_in line l z = cond (nat_lt 255 (length line)) (Err (described (LineTooLong l))) (on_line l z)

abbrev pub unless : Option (ℕ × ℕ) → Result (Unit {0}) (ℕ × ℕ)
unless None = Ok tt
unless (Some f) = Err f

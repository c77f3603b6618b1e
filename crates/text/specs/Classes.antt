-- The class of a byte. Assumes nothing.
--   within a z b     b is one of a to z
--   letter, digit, blank, mark   the four classes by their bytes
--   class_of b        the class of b; what is in none of the four is `Other`
use Rattle.std.specs.Prelude.{ℕ, Bool, cond, ◌&&◌, ◌||◌, ◌==◌, nat_le}
use Rattle.text.specs.declared.Class.{Class}
use Rattle.text.specs.declared.Class.TheVariants.{Letter, Digit, Blank, Mark, Other}

abbrev pub within : ℕ → ℕ → ℕ → Bool
within a z b = nat_le a b && nat_le b z

-- A to Z, a to z, underscore
abbrev pub letter : ℕ → Bool
letter b = within 65 90 b || (within 97 122 b || b == 95)

abbrev pub digit : ℕ → Bool
digit b = within 48 57 b

-- tab, vertical tab, form feed, carriage return, space; a line feed is none, since it ends the line
abbrev pub blank : ℕ → Bool
blank b = b == 9 || (within 11 13 b || b == 32)

-- ! & ( ) |
abbrev pub mark : ℕ → Bool
mark b = b == 33 || (b == 38 || (within 40 41 b || b == 124))

abbrev pub class_of : ℕ → Class
class_of b = cond (letter b) Letter (cond (digit b) Digit (cond (blank b) Blank (cond (mark b) Mark Other)))

-- The lines of a source. Assumes nothing.
--   nil xs          xs is empty
--   onto x ls      the byte x in front of the first line
--   lines s        the lines in order: each ends with its line feed, and the last may lack it, so that an empty source has none
--   joined ls      the bytes of lines, one behind the other
--   content l      a line without its line feed
--   is_too_large s     s has more than 65,535 bytes or more than 4,095 lines
use Rattle.std.specs.Prelude.{ℕ, Bool, true, false, cond, ◌||◌, List, [], ◌∷◌, ◌++◌, length, ◌==◌, nat_lt}
use Rattle.text.specs.Tokens.{Bytes}
use Rattle.lines.specs.Lines.{until_feed}

abbrev pub nil : {A : Type 0} → List A → Bool
nil [] = true
nil (x ∷ xs) = false

abbrev pub onto : ℕ → List Bytes → List Bytes
onto x [] = (x ∷ []) ∷ []
onto x (l ∷ ls) = (x ∷ l) ∷ ls

abbrev pub lines : Bytes → List Bytes
lines [] = []
lines (x ∷ xs) = cond (x == 10) ((x ∷ []) ∷ lines xs) (onto x (lines xs))

abbrev pub joined : List Bytes → Bytes
joined [] = []
joined (l ∷ ls) = l ++ joined ls

abbrev pub content : Bytes → Bytes
content l = until_feed l

abbrev pub is_too_large : Bytes → Bool
is_too_large s = nat_lt 65535 (length s) || nat_lt 4095 (length (lines s))

-- The tokens of a line, each with its place. Assumes nothing.
--   Tok              a token by its sort; a name with its bytes
--   Placed           a token and the place of its first byte, counted from 1
--   run s            the longest front of letters and digits
--   gap c m s        how many bytes in front are blanks and, where comments are known (c), comments
--   word w           what a run is: `0`, `1`, `defined`, a name of at most 63 bytes, or no token of the grammar
--   front s          the token that begins s, and how long it is
--   tokens_at c line from   the tokens of the line (without its line feed) from offset `from` on
use Rattle.std.specs.Prelude.{ℕ, zero, suc, ◌+◌, Bool, cond, ◌&&◌, ◌||◌, List, [], ◌∷◌, length, drop, codes, ◌==◌, nat_le, slice_index}
use Rattle.std.specs.Str.{bytes_eq}
use Rattle.text.specs.Classes.{letter, digit, blank}

abbrev pub Bytes : Type 0
Bytes = List ℕ

pub data Tok : Type 0 where
  nought unit defined not and or opened closed : Tok
  name : Bytes → Tok
  other : Tok

abbrev pub Placed : Type 0
Placed = Tok × ℕ

abbrev pub word_byte : ℕ → Bool
word_byte b = letter b || digit b

abbrev pub run : Bytes → Bytes
run [] = []
run (x ∷ r) = cond (word_byte x) (x ∷ run r) []

-- Where a look over blanks and comments stands: between them, behind a slash, in a block comment, behind a star in it.
pub data Gap : Type 0 where
  between stroke inside closing : Gap

-- in `stroke` the slash is counted too; a line comment goes to the line's end
abbrev pub gap : Bool → Gap → Bytes → ℕ
gap c between [] = 0
gap c between (x ∷ r) = cond (blank x) (suc (gap c between r)) (cond (c && x == 47) (gap c stroke r) 0)
gap c stroke [] = 0
gap c stroke (x ∷ r) = cond (x == 42) (suc (suc (gap c inside r))) (cond (x == 47) (suc (suc (length r))) 0)
gap c inside [] = 0
gap c inside (x ∷ r) = suc (cond (x == 42) (gap c closing r) (gap c inside r))
gap c closing [] = 0
gap c closing (x ∷ r) = suc (cond (x == 47) (gap c between r) (cond (x == 42) (gap c closing r) (gap c inside r)))

abbrev pub word : Bytes → Tok
word w =
    cond (digit (slice_index w 0))
    (cond (bytes_eq w (codes "0")) nought (cond (bytes_eq w (codes "1")) unit other))
    (cond (bytes_eq w (codes "defined")) defined (cond (nat_le (length w) 63) (name w) other))

-- two bytes b stand in front
abbrev pub pair : Bytes → ℕ → Bool
pair r b = nat_le 2 (length r) && (slice_index r 0 == b && slice_index r 1 == b)

abbrev pub front : Bytes → Tok × ℕ
front r =
    cond (slice_index r 0 == 33) (not, 1)
    (cond (slice_index r 0 == 40) (opened, 1)
    (cond (slice_index r 0 == 41) (closed, 1)
    (cond (pair r 38) (and, 2)
    (cond (pair r 124) (or, 2)
    (cond (word_byte (slice_index r 0)) (word (run r), length (run r))
    (other, 1))))))

-- the token that begins s at its place, and then those that `next` finds behind it
abbrev pub begun : (ℕ → Bytes → List Placed) → ℕ → Bytes → List Placed
begun next at [] = []
begun next at (x ∷ r) = ((front (x ∷ r)).0, at) ∷ next (at + (front (x ∷ r)).1) (drop (front (x ∷ r)).1 (x ∷ r))

-- the tokens of s, whose first byte has the place `at`; there are at most k
abbrev pub lexed : Bool → ℕ → ℕ → Bytes → List Placed
lexed c zero at s = []
lexed c (suc k) at s = begun (λ n r. lexed c k n r) (at + gap c between s) (drop (gap c between s) s)

abbrev pub tokens_at : Bool → Bytes → ℕ → List Placed
tokens_at c line from = lexed c (length (drop from line)) (suc from) (drop from line)

-- What the pieces of a line are: code, comments, strings and character literals. Assumes nothing.
--   Quote          the two sorts of literal: a string, in double quotes, and a character literal, in single ones
--   quote_mark z    the byte that begins and ends a literal
--   Quoted z q     q may stand inside a literal: the quote that ends it stands there only behind a backslash, which takes the next byte
--   begins x s     the first byte of s is x
--   free s         the end of a block comment, `*/`, stands nowhere in s
--   Code s b       s is a line, or the rest of one, from a place in code on; b: a block comment is open at its end
--   Scanned c s b  the same of a whole line s that began inside a block comment (c) or in code
-- Bytes by number: 34 `"`, 39 `'`, 42 `*`, 47 `/`, 92 backslash.
use Rattle.std.specs.Prelude.{◌≡◌, ℕ, Bool, true, false, not, ◌&&◌, [], ◌∷◌, ◌++◌, ◌==◌}
use Rattle.scanning.specs.Bytes.{Bytes}

pub data Quote : Type 0 where
  double single : Quote

abbrev pub quote_mark : Quote → ℕ
quote_mark double = 34
quote_mark single = 39

pub data Quoted (z : Quote) : Bytes → Type 0 where
  nothing : Quoted z []
  byte : {x : ℕ} {q : Bytes} → (x == quote_mark z) ≡ false → (x == 92) ≡ false → Quoted z q → Quoted z (x ∷ q)
  escape : {x : ℕ} {q : Bytes} → Quoted z q → Quoted z (92 ∷ x ∷ q)

abbrev pub begins : ℕ → Bytes → Bool
begins x [] = false
begins x (y ∷ s) = y == x

abbrev pub free : Bytes → Bool
free [] = true
free (x ∷ s) = not (x == 42 && begins 47 s) && free s

-- A comment does not nest, and nothing in a comment or a literal begins another piece. A literal that its line does not end goes to the line's end.
pub data Code : Bytes → Bool → Type 0 where
  nothing : Code [] false
  -- a byte that begins neither a comment nor a literal
  byte : {x : ℕ} {s : Bytes} {b : Bool} → (x == 47) ≡ false → (x == 34) ≡ false → (x == 39) ≡ false → Code s b → Code (x ∷ s) b
  -- a slash that begins no comment
  divide : {s : Bytes} {b : Bool} → begins 47 s ≡ false → begins 42 s ≡ false → Code s b → Code (47 ∷ s) b
  line_comment : {s : Bytes} → Code (47 ∷ 47 ∷ s) false
  comment : (c s : Bytes) {b : Bool} → free c ≡ true → Code s b → Code (47 ∷ 42 ∷ (c ++ 42 ∷ 47 ∷ s)) b
  open_comment : {c : Bytes} → free c ≡ true → Code (47 ∷ 42 ∷ c) true
  literal : (z : Quote) (q s : Bytes) {b : Bool} → Quoted z q → Code s b → Code (quote_mark z ∷ (q ++ quote_mark z ∷ s)) b
  unclosed_literal : (z : Quote) (q : Bytes) → Quoted z q → Code (quote_mark z ∷ q) false
  -- the same with a backslash last, which finds no byte to take
  unclosed_escape : (z : Quote) (q : Bytes) → Quoted z q → Code (quote_mark z ∷ (q ++ 92 ∷ [])) false

pub data Scanned : Bool → Bytes → Bool → Type 0 where
  from_code : {s : Bytes} {b : Bool} → Code s b → Scanned false s b
  -- the comment that the line began in ends in it
  closed : (c s : Bytes) {b : Bool} → free c ≡ true → Code s b → Scanned true (c ++ 42 ∷ 47 ∷ s) b
  still_open : {c : Bytes} → free c ≡ true → Scanned true c true

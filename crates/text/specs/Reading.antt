-- What the tokens of a line are, in rules: blanks and comments, a token, and so on to the end. Assumes nothing.
--   NoEnd b          the end of a block comment, `*/`, stands nowhere in b
--   Gaps c g         g is blanks and, where comments are known (c), whole block comments
--   Ending c s       what may stand behind the last gap: nothing, a line comment, or a block comment without its end
--   Alone c x r      the byte x, before r, is no blank and begins no comment and no longer token
--   Word w t         the run w of letters and digits is the token t
--   Run w            w is one letter or digit or more
--   Spells c w r t   the bytes w, before r, are the token t; a run is the longest one
--   Reads c at s ps  s, whose first byte has the place `at`, reads as the tokens ps
use Rattle.std.specs.Prelude.{◌≡◌, ℕ, ◌+◌, ◌<◌, ◌≤◌, Bool, true, false, List, [], ◌∷◌, ◌++◌, length, codes, ◌≢◌, slice_index}
use Rattle.text.specs.Classes.{blank, digit}
use Rattle.text.specs.Tokens.{Bytes, Tok, Placed, word_byte, nought, unit, defined, not, and, or, opened, closed, name, other}

abbrev pub NoEnd : Bytes → Type 0
NoEnd b = (u v : Bytes) → b ≢ u ++ 42 ∷ 47 ∷ v

pub data Gaps : Bool → Bytes → Type 0 where
  no_gap : {c : Bool} → Gaps c []
  a_blank : {c : Bool} {x : ℕ} {g : Bytes} → blank x ≡ true → Gaps c g → Gaps c (x ∷ g)
  a_comment : (b g : Bytes) → NoEnd b → Gaps true g → Gaps true (47 ∷ 42 ∷ (b ++ 42 ∷ 47 ∷ g))

pub data Ending : Bool → Bytes → Type 0 where
  at_end : {c : Bool} → Ending c []
  line_comment : {s : Bytes} → Ending true (47 ∷ 47 ∷ s)
  open_comment : {b : Bytes} → NoEnd b → Ending true (47 ∷ 42 ∷ b)

-- behind an empty r stands 0, which is none of the bytes named here
pub record Alone (c : Bool) (x : ℕ) (r : Bytes) : Type 0 where
  pub no_blank : blank x ≡ false
  pub no_word : word_byte x ≡ false
  pub no_mark : (x ≢ 33) × (x ≢ 40) × (x ≢ 41)
  pub no_and : x ≡ 38 → slice_index r 0 ≢ 38
  pub no_or : x ≡ 124 → slice_index r 0 ≢ 124
  pub no_block : c ≡ true → x ≡ 47 → slice_index r 0 ≢ 42
  pub no_line : c ≡ true → x ≡ 47 → slice_index r 0 ≢ 47

pub data Word : Bytes → Tok → Type 0 where
  zero_word : Word (codes "0") nought
  one_word : Word (codes "1") unit
  other_number : {w : Bytes} → digit (slice_index w 0) ≡ true → (w ≢ codes "0") → (w ≢ codes "1") → Word w other
  defined_word : Word (codes "defined") defined
  a_name : {w : Bytes} → digit (slice_index w 0) ≡ false → (w ≢ codes "defined") → length w ≤ 63 → Word w (name w)
  too_long : {w : Bytes} → digit (slice_index w 0) ≡ false → 63 < length w → Word w other

pub data Run : Bytes → Type 0 where
  one_byte : {x : ℕ} → word_byte x ≡ true → Run (x ∷ [])
  more_bytes : {x : ℕ} {w : Bytes} → word_byte x ≡ true → Run w → Run (x ∷ w)

pub data Spells : Bool → Bytes → Bytes → Tok → Type 0 where
  a_not : {c : Bool} {r : Bytes} → Spells c (33 ∷ []) r not
  an_open : {c : Bool} {r : Bytes} → Spells c (40 ∷ []) r opened
  a_close : {c : Bool} {r : Bytes} → Spells c (41 ∷ []) r closed
  an_and : {c : Bool} {r : Bytes} → Spells c (38 ∷ 38 ∷ []) r and
  an_or : {c : Bool} {r : Bytes} → Spells c (124 ∷ 124 ∷ []) r or
  a_run : {c : Bool} {w r : Bytes} {t : Tok} → Run w → word_byte (slice_index r 0) ≡ false → Word w t → Spells c w r t
  a_byte : {c : Bool} {x : ℕ} {r : Bytes} → Alone c x r → Spells c (x ∷ []) r other

pub data Reads : Bool → ℕ → Bytes → List Placed → Type 0 where
  no_more : {c : Bool} {at : ℕ} (g s : Bytes) → Gaps c g → Ending c s → Reads c at (g ++ s) []
  a_token : {c : Bool} {at : ℕ} (g w r : Bytes) {t : Tok} {ps : List Placed} → Gaps c g → Spells c w r t
      → Reads c (at + length g + length w) r ps → Reads c at (g ++ (w ++ r)) ((t, at + length g) ∷ ps)

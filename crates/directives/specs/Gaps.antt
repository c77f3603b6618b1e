-- Blanks and block comments in a line, and what stands behind them. Assumes nothing.
--   Bytes, letter, digit, word_byte   as in `text`; a word byte is a letter or a digit
--   blank b          b is a blank, or the line feed that ends a line and is left aside there as a blank is
--   Gap              where a look over blanks and block comments stands
--   skip m s         what stands behind them, where the look stands at m before s
--   front c l        what stands first outside them in a line that begins inside a block comment (c) or in code
--   begins b s       b is the first byte of s
--   no_end s          the end of a block comment, `*/`, stands nowhere in s
--   Blanks g         g is blanks and whole block comments
--   solid s          neither a blank nor a block comment begins s
--   Skipped l s      l is blanks and whole block comments, and behind them s, which begins with neither; or a comment has no end, and s is nothing
--   Fronted c l s    the same of a line that begins inside a block comment (c), whose end may be missing, or in code
use Rattle.std.specs.Prelude.{◌≡◌, ℕ, Bool, true, false, cond, not, ◌&&◌, ◌||◌, [], ◌∷◌, ◌++◌, ◌==◌, nat_le}
pub use Rattle.text.specs.Classes.{letter, digit}
pub use Rattle.text.specs.Tokens.{Bytes, word_byte}

-- tab, line feed, vertical tab, form feed, carriage return, space
abbrev pub blank : ℕ → Bool
blank b = nat_le 9 b && nat_le b 13 || b == 32

-- between blanks and comments, behind a slash, in a comment, behind a star in it
pub data Gap : Type 0 where
  between stroke inside closing : Gap

abbrev pub skip : Gap → Bytes → Bytes
skip between [] = []
skip between (x ∷ r) = cond (blank x) (skip between r) (cond (x == 47) (skip stroke r) (x ∷ r))
skip stroke [] = 47 ∷ []
skip stroke (x ∷ r) = cond (x == 42) (skip inside r) (47 ∷ x ∷ r)
skip inside [] = []
skip inside (x ∷ r) = cond (x == 42) (skip closing r) (skip inside r)
skip closing [] = []
skip closing (x ∷ r) = cond (x == 47) (skip between r) (cond (x == 42) (skip closing r) (skip inside r))

abbrev pub front : Bool → Bytes → Bytes
front c l = skip (cond c inside between) l

abbrev pub begins : ℕ → Bytes → Bool
begins b [] = false
begins b (x ∷ r) = x == b

abbrev pub no_end : Bytes → Bool
no_end [] = true
no_end (x ∷ r) = not (x == 42 && begins 47 r) && no_end r

pub data Blanks : Bytes → Type 0 where
  no_more : Blanks []
  a_blank : {x : ℕ} {r : Bytes} → blank x ≡ true → Blanks r → Blanks (x ∷ r)
  a_comment : (b r : Bytes) → no_end b ≡ true → Blanks r → Blanks (47 ∷ 42 ∷ (b ++ 42 ∷ 47 ∷ r))

abbrev pub solid : Bytes → Bool
solid [] = true
solid (x ∷ r) = not (blank x || (x == 47 && begins 42 r))

pub data Skipped : Bytes → Bytes → Type 0 where
  behind : (g s : Bytes) → Blanks g → solid s ≡ true → Skipped (g ++ s) s
  swallowed : (g b : Bytes) → Blanks g → no_end b ≡ true → Skipped (g ++ 47 ∷ 42 ∷ b) []

pub data Fronted : Bool → Bytes → Bytes → Type 0 where
  in_code : {l s : Bytes} → Skipped l s → Fronted false l s
  ended : (b r : Bytes) {s : Bytes} → no_end b ≡ true → Skipped r s → Fronted true (b ++ 42 ∷ 47 ∷ r) s
  unended : {b : Bytes} → no_end b ≡ true → Fronted true b []

-- The lines of a text. Assumes nothing.
--   Line             a line without its line feed, and all that stands behind that line feed
--   until_feed s      the bytes before the first line feed
--   past_feed s       the bytes behind it; none where there is none
--   Divided s line behind   the line has no line feed, and is all of s, or stands before a line feed and then `behind`
--   lines_of s        the lines in order: each ends with its line feed, and the last may lack it, so that an empty text has none
use Rattle.std.specs.Prelude.{◌≡◌, ℕ, ◌<◌, cond, ◌⊎◌, List, [], ◌∷◌, ◌++◌, length, ◌==◌, ◌≢◌, slice_index}

pub record Line : Type 0 where
  pub content : List ℕ
  pub behind : List ℕ

abbrev pub until_feed : List ℕ → List ℕ
until_feed [] = []
until_feed (x ∷ r) = cond (x == 10) [] (x ∷ until_feed r)

abbrev pub past_feed : List ℕ → List ℕ
past_feed [] = []
past_feed (x ∷ r) = cond (x == 10) r (past_feed r)

-- a byte in front of the first line
abbrev pub onto : ℕ → List Line → List Line
onto x [] = record { content = x ∷ []; behind = [] } ∷ []
onto x (l ∷ ls) = record { content = x ∷ l.content; behind = l.behind } ∷ ls

abbrev pub lines_of : List ℕ → List Line
lines_of [] = []
lines_of (x ∷ r) = cond (x == 10) (record { content = []; behind = r } ∷ lines_of r) (onto x (lines_of r))

abbrev pub Divided : List ℕ → List ℕ → List ℕ → Type 0
Divided s line behind = ((k : ℕ) → k < length line → slice_index line k ≢ 10) × (((s ≡ line) × (behind ≡ [])) ⊎ (s ≡ line ++ 10 ∷ behind))

-- where there is a byte there is a first line
abbrev pub FirstLine : List ℕ → Type 0
FirstLine s = lines_of s ≡ record { content = until_feed s; behind = past_feed s } ∷ lines_of (past_feed s)

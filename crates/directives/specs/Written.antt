-- How the lines are written that this crate tells apart. Assumes nothing.
--   Listed n d       the table of ten has the name n for the directive d
--   Written l f      l is a gap, `#`, a gap, a name and the rest; the name is the longest run of letters and digits there and is listed for the directive of f,
--                    and f has the offset of the rest. A gap is blanks and whole block comments, or nothing
--   HashFirst c l    `#` is the first byte outside blanks and block comments, where l begins inside a block comment (c) or in code
--   LoneHash c l     `#` is the one byte outside them
--   AllBlank s       s is blanks
--   LastIs b l       b stands in l, and only blanks stand behind it
use Rattle.std.specs.Prelude.{◌≡◌, ℕ, Bool, true, false, [], ◌∷◌, ◌++◌, length, slice_index}
use mathlib.Core.List.{Memᴰ}
use Rattle.text.specs.Reading.{Run}
use Rattle.directives.specs.declared.Directive.{Directive}
use Rattle.directives.specs.declared.Found.{Found}
use Rattle.directives.specs.Gaps.{Bytes, word_byte, blank, Blanks, Skipped, Fronted}
use Rattle.directives.specs.Directives.{table}

abbrev pub Listed : Bytes → Directive → Type 0
Listed n d = Memᴰ (n, d) table

-- behind an empty rest stands 0, which is no letter and no digit
pub data Written : Bytes → Found → Type 0 where
  written : (g h n r : Bytes) {d : Directive} → Blanks g → Blanks h → Run n → word_byte (slice_index r 0) ≡ false → Listed n d
      → Written (g ++ 35 ∷ (h ++ (n ++ r))) (record { directive = d; behind = length (g ++ 35 ∷ (h ++ n)) })

abbrev pub HashFirst : Bool → Bytes → Type 0
HashFirst c l = (r : Bytes) × Fronted c l (35 ∷ r)

abbrev pub LoneHash : Bool → Bytes → Type 0
LoneHash c l = (r : Bytes) × Fronted c l (35 ∷ r) × Skipped r []

pub data AllBlank : Bytes → Type 0 where
  no_byte : AllBlank []
  one_more : {x : ℕ} {s : Bytes} → blank x ≡ true → AllBlank s → AllBlank (x ∷ s)

abbrev pub LastIs : ℕ → Bytes → Type 0
LastIs b l = (u v : Bytes) × (l ≡ u ++ b ∷ v) × AllBlank v

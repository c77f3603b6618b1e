-- The lines of a source with their places. Assumes nothing.
--   Placed          a line and its place: its number, whether it begins inside a block comment, and whether it is the source's last
--   placed c n ls   the lines from number n on, where the first begins inside a block comment (c) or in code
--   placed_of p      the line that the code's line p is
--   left_of s       the lines that the code's lines s still hold, behind the line before them
use Rattle.std.specs.Prelude.{ℕ, suc, Bool, List, [], ◌∷◌}
use Rattle.text.specs.Tokens.{Bytes}
use Rattle.scanning.specs.Modes.{open_after}
use Rattle.sources.specs.Lines.{nil, lines}
use Rattle.sources.specs.declared.place.SourceLine.{SourceLine}
use Rattle.sources.specs.declared.place.SourceLines.{SourceLines}

pub record Placed : Type 0 where
  pub text : Bytes
  pub number : ℕ
  pub in_comment : Bool
  pub last : Bool

abbrev pub placed : Bool → ℕ → List Bytes → List Placed
placed c n [] = []
placed c n (l ∷ ls) = record { text = l; number = n; in_comment = c; last = nil ls } ∷ placed (open_after c l) (suc n) ls

abbrev pub placed_of : SourceLine → Placed
placed_of p = record { text = p.text.now; number = p.number; in_comment = p.in_comment; last = p.last }

abbrev pub left_of : SourceLines → List Placed
left_of s = placed (open_after s.in_comment s.before.now) s.number (lines s.rest.0.now)

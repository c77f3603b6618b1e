-- Reading a source: its lines in order, or the first refusal. Assumes nothing.
--   read_line last c n s l   line l, number n, begun inside a block comment (c) or in code, where the lines before it leave the shape s: what it is and the
--                           shape behind it. Its own refusals come first, by rising number; a chain that is open behind the last line is the last of them
--   read_lines c n s ls      lines from number n on
--   read names t            the source t, where the names are the switches'
use Rattle.std.specs.Prelude.{ℕ, suc, Bool, false, List, [], ◌∷◌, Ok, Result}
use Rattle.faults.specs.declared.Refusal.{Refusal}
use Rattle.text.specs.Tokens.{Bytes}
use Rattle.scanning.specs.Modes.{open_after}
use Rattle.sources.specs.Lines.{nil, lines, is_too_large}
use Rattle.sources.specs.Classified.{Line, classified, then, refuse, changed}
use Rattle.sources.specs.Faults.{of_lines}
use Rattle.conditionals.specs.Shape.{Shape, shaped, ends, begun}

abbrev pub read_line : Bool → Bool → ℕ → Shape → Bytes → Result (Line × Shape) Refusal
read_line last c n s l =
    then (classified last c n l) (λ x. changed (λ s'. (x, s')) (ends last n (shaped n s x)))

abbrev pub read_lines : Bool → ℕ → Shape → List Bytes → Result (List Line) Refusal
read_lines c n s [] = Ok []
read_lines c n s (l ∷ ls) =
    then (read_line (nil ls) c n s l) (λ p.
    then (read_lines (open_after c l) (suc n) p.1 ls) (λ xs. Ok (p.0 ∷ xs)))

abbrev pub read : List Bytes → Bytes → Result (List Line) Refusal
read names t = refuse (is_too_large t) (of_lines 8 0) (read_lines false 1 (begun names) (lines t))

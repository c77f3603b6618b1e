use Rattle.std.proofs.Common.{false}
use Rattle.sources.specs.Lines.{lines}
use Rattle.sources.specs.Places.{placed, left_of}
use Rattle.preprocessing.specs.Lines.{Answer, Going}
use Rattle.preprocessing.proofs.Run.write_lines.Given as goal

abbrev pub invariant-loop-line : goal.invariant-loop-line
invariant-loop-line l =
    (goal.iterator-loop-line).can_next l.line-iterator
    × (goal.iterator-loop-line).is_finite l.line-iterator
    × ((t : Answer) → Going t l.initial.self (placed false 1 (lines l.source)) → Going t l.self (left_of l.line-iterator))

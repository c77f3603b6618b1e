use Rattle.std.proofs.Common.{◌≤◌}
use Rattle.cells.specs.Words.{count, Cut}
use Rattle.cells.proofs.pool.cut_cells.Given as goal

abbrev pub invariant-loop-words : goal.invariant-loop-words
invariant-loop-words l = Cut l.initial.words l.words (count l.words) × (l.held ≤ count l.words)

abbrev pub decreases-loop-words : goal.decreases-loop-words
decreases-loop-words l = count l.words

use Rattle.std.proofs.Common.{◌≡◌, ◌<◌}
use Rattle.cells.specs.Cells.{mean}
use Rattle.cells.specs.Words.{count, cells_of}
use Rattle.cells.proofs.questions.Cells.holds.Given as goal

abbrev pub invariant-loop-at : goal.invariant-loop-at
invariant-loop-at l = (l.at < count l.self.words.now) × (mean (cells_of l.self.words.now) l.cell l.k ≡ mean (cells_of l.self.words.now) l.at l.k)

abbrev pub decreases-loop-at : goal.decreases-loop-at
decreases-loop-at l = l.at

use Rattle.cells.specs.Words.{Descending}
use Rattle.cells.proofs.questions.Cells.lowest.Given as goal

abbrev pub invariant-loop-at : goal.invariant-loop-at
invariant-loop-at l = Descending l.self.words.now l.cell l.at l.k

abbrev pub decreases-loop-at : goal.decreases-loop-at
decreases-loop-at l = l.at

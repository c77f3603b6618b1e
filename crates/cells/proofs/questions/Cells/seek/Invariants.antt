use Rattle.cells.specs.Words.{cells_of, Searching}
use Rattle.cells.specs.Nodes.{cell_of}
use Rattle.cells.proofs.questions.Cells.seek.Given as goal

abbrev pub invariant-loop-cell : goal.invariant-loop-cell
invariant-loop-cell l = Searching (cells_of l.self.words.now) (cell_of l.x) l.cell

abbrev pub decreases-loop-cell : goal.decreases-loop-cell
decreases-loop-cell l = l.cell

-- The cells of the code. Assumes nothing.
--   cell_of x   the cell that the code has as x
use Rattle.cells.specs.Cells.{Cell}
use Rattle.cells.specs.declared.node.Node.{Node}

abbrev pub cell_of : Node → Cell
cell_of x = (x.switch, x.low, x.high)

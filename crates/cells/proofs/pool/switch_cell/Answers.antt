use Rattle.std.proofs.Common.{arith}
use Rattle.cells.specs.Words.{switches, cells_of}
use Rattle.cells.proofs.Switching.{switch_sides, switched}
use Rattle.cells.proofs.pool.switch_cell.Goals as goal

pub join_cells-requires : goal.join_cells-requires
join_cells-requires c =
    (c.requires.formed, switch_sides (switches c.args.words.now) (cells_of c.args.words.now) c.requires.formed.reduced c.args.i (omega arith))

pub returns : goal.returns
returns c =
    switched c.args.words.now c.join_cells.new.words c.args.i c.join_cells.result c.requires (omega arith) (omega (arith, c.join_cells.auto.words))
    c.join_cells.ensures.outcome c.join_cells.ensures.working c.join_cells.ensures.same

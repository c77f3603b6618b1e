use Rattle.std.proofs.Common.{arith}
use Rattle.operations.proofs.Levels.{level_end, level_read, level_most}
use Rattle.operations.proofs.apply.level_of.Goals as goal

pub returns-then-cell-lt-FLOOR : goal.returns-then-cell-lt-FLOOR
returns-then-cell-lt-FLOOR c = record { is = level_end _ c.args.cell c.if-cell-lt-FLOOR.true; within = omega arith }

pub returns-else-cell-lt-FLOOR : goal.returns-else-cell-lt-FLOOR
returns-else-cell-lt-FLOOR c =
    let e = level_read c.args.cells.now.words.now c.args.cell _ c.node.ensures c.if-cell-lt-FLOOR.false c.requires in
    record { is = e; within = omega (arith, e, level_most c.args.cells.now.words.now c.args.cells.now.formed c.args.cell c.requires) }

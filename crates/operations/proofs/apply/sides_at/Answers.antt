use Rattle.std.proofs.Common.{◌≡◌, suc, ◌≢◌, arith}
use Rattle.cells.specs.Cells.{level}
use Rattle.cells.specs.Words.{cells_of}
use Rattle.operations.proofs.Levels.{low_there, low_past, high_there, high_past}
use Rattle.operations.proofs.apply.sides_at.Goals as goal

pub returns-then-level_of-switch : goal.returns-then-level_of-switch
returns-then-level_of-switch c =
    let e : level (cells_of c.args.cells.now.words.now) c.args.cell ≡ suc c.args.switch = omega arith in
    record {
      low = low_there c.args.cells.now.words.now c.args.switch c.args.cell _ c.node-node.ensures e c.requires.0;
      high = high_there c.args.cells.now.words.now c.args.switch c.args.cell _ c.node-node.ensures e c.requires.0;
    }

pub returns-else-level_of-switch : goal.returns-else-level_of-switch
returns-else-level_of-switch c =
    let e : level (cells_of c.args.cells.now.words.now) c.args.cell ≢ suc c.args.switch = omega arith in
    record {
      low = low_past c.args.cells.now.words.now c.args.switch c.args.cell e;
      high = high_past c.args.cells.now.words.now c.args.switch c.args.cell e;
    }

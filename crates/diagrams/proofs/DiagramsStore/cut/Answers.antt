use Rattle.std.proofs.Common.{arith}
use Rattle.diagrams.specs.Cutting.{size_means}
use Rattle.diagrams.proofs.Growth.{cut_back, cut_all}
use Rattle.diagrams.proofs.DiagramsStore.cut.Goals as goal

pub cut_cells-requires : goal.cut_cells-requires
cut_cells-requires c =
    let s = c.args.self.now in
    (s.valid.formed, (omega (arith, c.max-kept.ensures), omega (arith, c.if-kept-len.true, c.len.ensures, size_means s.words.now)))

pub returns-then-kept-len : goal.returns-then-kept-len
returns-then-kept-len c =
    cut_back c.args.self.now c.cut_cells.new.words _ c.max-kept.result (omega (arith, c.cut_cells.auto.words)) c.cut_cells.ensures c.args.to
    (omega (arith, c.if-kept-len.true, c.max-kept.ensures, c.len.ensures))

pub returns-else-kept-len : goal.returns-else-kept-len
returns-else-kept-len c =
    let s = c.args.self.now in
    cut_all s c.args.to (omega (arith, c.if-kept-len.false, c.max-kept.ensures, c.len.ensures, size_means s.words.now))

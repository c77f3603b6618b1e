use Rattle.std.proofs.Common.{sym, ◌∙◌}
use Rattle.std.proofs.lemmas.Bool.{cond-true, cond-false}
use Rattle.cells.specs.Words.{cells_of}
use Rattle.cells.proofs.Asked.{on_is, on_not, seen, ended}
use Rattle.cells.proofs.questions.Cells.holds.Goals as goal

pub loop-at-preserved-then-k-node-eq1 : goal.loop-at-preserved-then-k-node-eq1
loop-at-preserved-then-k-node-eq1 c =
    let s = c.args.self.now in
    let v = seen s.words.now s.formed c.loop-at.at _ c.node-node.ensures c.loop-at-test.true c.loop-at.invariant.0 in
    (v.high_there, c.loop-at.invariant.1 ∙ v.means c.args.k ∙ cond-true _ _ _ (on_is _ c.args.k c.if-k-node-eq1.true))

pub loop-at-preserved : goal.loop-at-preserved
loop-at-preserved c =
    let s = c.args.self.now in
    let v = seen s.words.now s.formed c.loop-at.at _ c.node-node.ensures c.loop-at-test.true c.loop-at.invariant.0 in
    (v.low_there, c.loop-at.invariant.1 ∙ v.means c.args.k ∙ cond-false _ _ _ (on_not _ c.args.k c.if-k-node-eq1.false))

pub returns : goal.returns
returns c = ended (cells_of c.args.self.now.words.now) c.loop-at.at c.args.k c.loop-at-test.false ∙ sym c.loop-at.invariant.1

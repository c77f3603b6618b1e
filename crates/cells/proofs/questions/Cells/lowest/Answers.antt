use Rattle.std.proofs.Common.{ℕ, ◌+◌, sym, ap, ◌∙◌, subst}
use Rattle.std.proofs.lemmas.Nat.{one_shl}
use Rattle.cells.specs.Cells.{mean}
use Rattle.cells.specs.Words.{cells_of, Descending}
use Rattle.cells.proofs.Steps.{mean_none}
use Rattle.cells.proofs.Asked.{seek_from, seek_low, seek_high, seek_end, seen}
use Rattle.cells.proofs.questions.Cells.lowest.Goals as goal

pub returns-then-cell-eq-EMPTY : goal.returns-then-cell-eq-EMPTY
returns-then-cell-eq-EMPTY c =
    let cs = cells_of c.args.self.now.words.now in
    λ k h. ap (λ (y : ℕ). mean cs y k) c.if-cell-eq-EMPTY.true ∙ mean_none cs k

pub loop-at-init : goal.loop-at-init
loop-at-init c = seek_from c.args.self.now.words.now c.args.self.now.formed c.args.cell c.if-cell-eq-EMPTY.false c.requires

pub loop-at-preserved-then-node-ne-EMPTY : goal.loop-at-preserved-then-node-ne-EMPTY
loop-at-preserved-then-node-ne-EMPTY c =
    let s = c.args.self.now in
    seek_low s.words.now s.formed c.args.cell c.loop-at.at c.loop-at.k _ c.node-node.ensures c.loop-at.invariant c.loop-at-test.true c.if-node-ne-EMPTY.true

pub loop-at-preserved : goal.loop-at-preserved
loop-at-preserved c =
    let s = c.args.self.now in
    let x = c.node-node.result in
    let v = seen s.words.now s.formed c.loop-at.at _ c.node-node.ensures c.loop-at-test.true c.loop-at.invariant.there in
    subst (λ (y : ℕ). Descending s.words.now c.args.cell x.high (c.loop-at.k + y)) (sym (one_shl x.switch 32 v.switch))
    (seek_high s.words.now s.formed c.args.cell c.loop-at.at c.loop-at.k _ c.node-node.ensures c.loop-at.invariant c.loop-at-test.true c.if-node-ne-EMPTY.false)

pub returns : goal.returns
returns c = seek_end c.args.self.now.words.now c.args.cell c.loop-at.at c.loop-at.k c.loop-at.invariant c.loop-at-test.false

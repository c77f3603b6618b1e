use Rattle.std.proofs.Common.{ℕ, ◌+◌, ◌<◌, ◌≢◌, get_or, sym, ◌∙◌, subst, arith}
use Rattle.cells.specs.Words.{cells_of, Searching}
use Rattle.cells.specs.Nodes.{cell_of}
use Rattle.std.proofs.lemmas.Bool.{true≢false}
use Rattle.cells.proofs.Held.{same_is, is_same}
use Rattle.cells.proofs.Chained.{start, next_less, go_on, found, not_found}
use Rattle.cells.proofs.questions.Cells.seek.Goals as goal

-- a number above another is not 0
beyond : {m c : ℕ} → m < c → c ≢ 0
beyond h e = omega (arith, h, e)

pub loop-cell-init : goal.loop-cell-init
loop-cell-init c =
    let s = c.args.self.now in
    subst (λ (h : ℕ). Searching (cells_of s.words.now) (cell_of c.args.x) (get_or s.words.now (2 + h) 0))
    (sym c.chain.ensures)
    (start s.words.now s.formed (cell_of c.args.x) c.requires)

pub returns-then-eq : goal.returns-then-eq
returns-then-eq c =
    let s = c.args.self.now in
    found s.words.now (cell_of c.args.x) c.loop-cell.cell c.loop-cell.invariant (beyond c.loop-cell-test.true) (sym c.node.ensures ∙ same_is (cell_of c.node.result) (cell_of c.args.x) (sym c.eq.ensures ∙ c.if-eq.true))

pub loop-cell-smaller : goal.loop-cell-smaller
loop-cell-smaller c =
    let s = c.args.self.now in
    subst (λ (n : ℕ). n < c.loop-cell.cell) (sym c.next-cell.ensures)
    (next_less s.words.now s.formed (cell_of c.args.x) c.loop-cell.cell c.loop-cell.invariant (beyond c.loop-cell-test.true))

pub loop-cell-preserved : goal.loop-cell-preserved
loop-cell-preserved c =
    let s = c.args.self.now in
    subst (Searching (cells_of s.words.now) (cell_of c.args.x)) (sym c.next-cell.ensures)
    (go_on s.words.now s.formed (cell_of c.args.x) c.loop-cell.cell c.requires c.loop-cell.invariant (beyond c.loop-cell-test.true)
    (λ e. true≢false (sym (is_same (cell_of c.node.result) (cell_of c.args.x) (c.node.ensures ∙ e)) ∙ sym c.eq.ensures ∙ c.if-eq.false)))

pub returns : goal.returns
returns c =
    let s = c.args.self.now in
    not_found s.words.now s.formed (cell_of c.args.x) c.loop-cell.cell c.requires c.loop-cell.invariant (omega (arith, c.loop-cell-test.false, c.max.ensures))

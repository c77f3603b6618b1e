use Rattle.std.proofs.Common.{ℕ, ◌^◌, ◌<◌, List, sym, ap, ◌∙◌, subst, arith}
use Rattle.cells.specs.Cells.{mean}
use Rattle.cells.specs.Words.{switches, count, cells_of}
use Rattle.diagrams.specs.Cutting.{size_means, set_inside}
use Rattle.diagrams.proofs.Sets.{configuration_below}
use Rattle.diagrams.proofs.DiagramsStore.holds.Goals as goal

pub holds-requires : goal.holds-requires
holds-requires c =
    subst (λ (ws : List ℕ). c.args.a < count ws) (sym c.cells.ensures) (omega (arith, c.if-a-len.false, c.len.ensures, size_means c.args.self.now.words.now))

pub returns : goal.returns
returns c =
    let ws = c.args.self.now.words.now in
    let n = c.switches.result in
    let k = c.args.k in
    let lt : k < 2 ^ n = configuration_below n k (omega (arith, c.switches.ensures, c.args.self.now.valid.formed.reduced.admitted)) c.if-k-switches.false in
    let below : k < 2 ^ switches ws = subst (λ (z : ℕ). k < 2 ^ z) c.switches.ensures lt in (
      omega (arith, c.if-a-len.false, c.len.ensures),
      below,
      c.holds.ensures ∙ ap (λ (ws : List ℕ). mean (cells_of ws) c.args.a k) c.cells.ensures ∙ sym (set_inside ws c.args.a k (omega (arith, c.if-a-len.false, c.len.ensures, size_means ws)) below),
    )

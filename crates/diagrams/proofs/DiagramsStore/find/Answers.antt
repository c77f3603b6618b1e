use Rattle.std.proofs.Common.{ℕ, ◌<◌, List, sym, subst, arith}
use Rattle.cells.specs.Words.{count, LowestOf}
use Rattle.diagrams.specs.Cutting.{size_means}
use Rattle.diagrams.proofs.Sets.{lowest_held}
use Rattle.diagrams.proofs.DiagramsStore.find.Goals as goal

pub lowest-requires : goal.lowest-requires
lowest-requires c =
    subst (λ (ws : List ℕ). c.args.a < count ws) (sym c.cells.ensures) (omega (arith, c.if-a-len.false, c.len.ensures, size_means c.args.self.now.words.now))

pub returns : goal.returns
returns c =
    let ws = c.args.self.now.words.now in
    let lowest : LowestOf ws c.args.a c.lowest.result = subst (λ (ws : List ℕ). LowestOf ws c.args.a c.lowest.result) c.cells.ensures c.lowest.ensures in (
      omega (arith, c.if-a-len.false, c.len.ensures),
      lowest_held ws c.args.a c.lowest.result (omega (arith, c.if-a-len.false, c.len.ensures, size_means ws)) lowest,
    )

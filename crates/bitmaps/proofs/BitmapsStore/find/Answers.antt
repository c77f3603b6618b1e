use Rattle.std.proofs.Common.{ℕ, List, get_or, ap, subst, arith}
use Rattle.stores.specs.Sets.{LowestIf}
use Rattle.bitmaps.specs.Cutting.{size_means}
use Rattle.bitmaps.specs.Meaning.{slot}
use Rattle.bitmaps.proofs.Questions.{lowest_held}
use Rattle.bitmaps.proofs.BitmapsStore.find.Goals as goal

pub lowest-requires : goal.lowest-requires
lowest-requires c = omega (arith, c.if-a-held.false, c.len-held.ensures, size_means c.args.self.now.words.now, ap (λ (l : List ℕ). get_or l 1 0) c.slots.ensures.words)

pub returns : goal.returns
returns c =
    let ws = c.args.self.now.words.now in
    let s = c.slots.result in (
      omega (arith, c.if-a-held.false, c.len-held.ensures),
      lowest_held ws c.args.a s.switches.n c.lowest.result c.slots.ensures.switches (omega (arith, c.if-a-held.false, c.len-held.ensures, size_means ws))
          (subst (λ (l : List ℕ). LowestIf (slot s.switches.n l c.args.a) c.lowest.result) c.slots.ensures.words c.lowest.ensures),
    )

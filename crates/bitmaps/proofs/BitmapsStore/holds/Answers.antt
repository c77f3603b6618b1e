use Rattle.std.proofs.Common.{ℕ, ◌+◌, ◌/◌, ◌%◌, ◌^◌, ◌<◌, List, get_or, ap, ◌∙◌, subst, arith}
use Rattle.stores.specs.Sets.{on}
use Rattle.bitmaps.specs.Layout.{start}
use Rattle.bitmaps.specs.Cutting.{size_means}
use Rattle.bitmaps.specs.Kept.{word_within}
use Rattle.bitmaps.proofs.Questions.{configuration_below, held_bit}
use Rattle.bitmaps.proofs.BitmapsStore.holds.Goals as goal

pub word-word-requires : goal.word-word-requires
word-word-requires c =
    let s = c.slots-slots.result in (
      omega (arith, c.if-a-len.false, c.len.ensures, size_means c.args.self.now.words.now, ap (λ (l : List ℕ). get_or l 1 0) c.slots-slots.ensures.words),
      word_within s.switches.n c.args.k (configuration_below s.switches.n c.args.k s.switches.few c.if-k-slots.false),
    )

pub returns : goal.returns
returns c =
    let ws = c.args.self.now.words.now in
    let s = c.slots-slots.result in
    let k = c.args.k in
    let held : c.args.a < get_or ws 1 0 = omega (arith, c.if-a-len.false, c.len.ensures, size_means ws) in
    let below : k < 2 ^ (get_or ws 0 0) = subst (λ (z : ℕ). k < 2 ^ z) c.slots-slots.ensures.switches (configuration_below s.switches.n k s.switches.few c.if-k-slots.false) in (
      omega (arith, c.if-a-len.false, c.len.ensures),
      below,
      ap (on (k % 64)) (c.word-word.ensures.value ∙ (λ i. get_or (c.slots-slots.ensures.words i) (start (c.slots-slots.ensures.switches i) c.args.a + k / 64) 0))
          ∙ held_bit ws c.args.a k held below,
    )

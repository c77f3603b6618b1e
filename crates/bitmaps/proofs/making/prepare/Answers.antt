use Rattle.std.proofs.Common.{◌≡◌, ◌≤◌, length, set, ap, ◌∙◌, zero-le, arith}
use Rattle.bitmaps.specs.Layout.{slots, start}
use Rattle.bitmaps.proofs.Makings.{none_due, written_new}
use Rattle.bitmaps.proofs.making.prepare.Goals as goal

pub returns : goal.returns
returns c =
    let n = c.args.n in
    let ws = c.args.words.now in
    let len = length ws in
    let two : 2 ≤ slots len n = omega (arith, c.if-slots-lt-FLOOR.false, c.capacity-slots.ensures) in
    let end : c.start.result ≡ start n (slots len n) = c.start.ensures ∙ ap (start n) c.capacity-slots.ensures in (
      none_due ws n c.if-n-gt-MAX_SWITCHES.false two,
      (λ i. set (set c.fill-2.new.words 0 (c.from.ensures i)) 1 (c.from-2.ensures i)) ∙ written_new n ws c.fill.new.words c.fill-2.new.words two c.fill.auto.words c.fill-2.auto.words
          (λ i h. c.fill.ensures.made i zero-le (omega (arith, h, end)))
          (λ i h. c.fill.ensures.after i (omega (arith, h, end)))
          (λ i lo hi. c.fill-2.ensures.made i (omega (arith, lo, c.start-2.ensures)) (omega (arith, hi, c.start-3.ensures)) ∙ c.full_word.ensures)
          (λ i h. c.fill-2.ensures.before i (omega (arith, h, c.start-2.ensures)))
          (λ i h. c.fill-2.ensures.after i (omega (arith, h, c.start-3.ensures))),
    )

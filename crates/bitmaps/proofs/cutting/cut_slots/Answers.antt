use Rattle.std.proofs.Common.{ℕ, set, ap, ◌∙◌, arith}
use Rattle.bitmaps.proofs.Cuts.{written_cut}
use Rattle.bitmaps.proofs.cutting.cut_slots.Goals as goal

pub returns : goal.returns
returns c =
    ap (λ (k : ℕ). set c.fill.new.words 1 k) c.from.ensures
    ∙ written_cut c.args.words.now c.fill.new.words c.requires.valid c.args.kept (omega (arith, c.requires.kept.1)) c.fill.auto.words
    (λ i lo hi. c.fill.ensures.made i (omega (arith, lo, c.start.ensures)) (omega (arith, hi, c.start-2.ensures)))
    (λ i h. c.fill.ensures.before i (omega (arith, h, c.start.ensures)))
    (λ i h. c.fill.ensures.after i (omega (arith, h, c.start-2.ensures)))

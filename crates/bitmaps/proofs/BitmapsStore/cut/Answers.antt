use Rattle.std.proofs.Common.{sym, subst, arith}
use Rattle.bitmaps.specs.Meaning.{Valid}
use Rattle.bitmaps.specs.Cutting.{size_means, valid_cut}
use Rattle.bitmaps.proofs.Cuts.{cut_all, cut_some}
use Rattle.bitmaps.proofs.BitmapsStore.cut.Goals as goal

pub cut_slots-requires-clause-kept : goal.cut_slots-requires-clause-kept
cut_slots-requires-clause-kept c = (omega (arith, c.max-kept.ensures), omega (arith, c.if-kept-len.true, c.len.ensures, size_means c.args.self.now.words.now))

pub invariant_of-self : goal.invariant_of-self
invariant_of-self c =
    let s = c.args.self.now in
    record {
      valid = subst Valid (sym c.cut_slots.ensures)
          (valid_cut s.words.now s.valid c.max-kept.result (omega (arith, c.max-kept.ensures)) (omega (arith, c.if-kept-len.true, c.len.ensures, size_means s.words.now)));
    }

pub returns-then-kept-len : goal.returns-then-kept-len
returns-then-kept-len c =
    cut_some c.args.self.now c.cut_slots.new.words _ c.args.to c.max-kept.result c.max-kept.ensures (omega (arith, c.if-kept-len.true, c.len.ensures)) c.cut_slots.ensures

pub returns-else-kept-len : goal.returns-else-kept-len
returns-else-kept-len c = cut_all c.args.self.now c.args.to (omega (arith, c.if-kept-len.false, c.max-kept.ensures, c.len.ensures))

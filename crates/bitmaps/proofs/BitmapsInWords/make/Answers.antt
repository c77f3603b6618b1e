use Rattle.bitmaps.proofs.Makings.{renewed_valid, made_new}
use Rattle.bitmaps.proofs.BitmapsInWords.make.Goals as goal

pub invariant_of-result : goal.invariant_of-result
invariant_of-result c =
    let p = c.in_ok-prepare.ensures in
    record { valid = renewed_valid c.args.words.now _ c.args.n p.0 p.1 }

pub returns : goal.returns
returns c =
    let p = c.in_ok-prepare.ensures in
    made_new c.args.words.now c.args.n _ p.0 p.1

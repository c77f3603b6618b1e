use Rattle.std.proofs.Common.{arith}
use Rattle.bitmaps.proofs.Questions.{none_set}
use Rattle.bitmaps.proofs.BitmapsStore.none.Goals as goal

pub returns : goal.returns
returns c = (omega arith, none_set c.args.self.now.words.now c.args.self.now.valid)

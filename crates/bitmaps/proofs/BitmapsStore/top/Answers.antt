use Rattle.std.proofs.Common.{arith}
use Rattle.bitmaps.proofs.Questions.{top_set}
use Rattle.bitmaps.proofs.BitmapsStore.top.Goals as goal

pub returns : goal.returns
returns c = (omega arith, top_set c.args.self.now.words.now c.args.self.now.valid)

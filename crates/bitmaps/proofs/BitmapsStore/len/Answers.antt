use Rattle.std.proofs.Common.{sym}
use Rattle.bitmaps.specs.Cutting.{size_means}
use Rattle.bitmaps.proofs.BitmapsStore.len.Goals as goal

pub returns : goal.returns
returns c = sym (size_means c.args.self.now.words.now)

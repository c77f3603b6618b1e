use Rattle.std.proofs.Common.{arith}
use Rattle.diagrams.proofs.Sets.{top_set}
use Rattle.diagrams.proofs.DiagramsStore.top.Goals as goal

pub returns : goal.returns
returns c = (omega arith, top_set c.args.self.now.words.now c.args.self.now.valid)

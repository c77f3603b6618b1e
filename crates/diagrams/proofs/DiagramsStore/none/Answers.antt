use Rattle.std.proofs.Common.{arith}
use Rattle.diagrams.proofs.Sets.{none_set}
use Rattle.diagrams.proofs.DiagramsStore.none.Goals as goal

pub returns : goal.returns
returns c = (omega arith, none_set c.args.self.now.words.now c.args.self.now.valid)

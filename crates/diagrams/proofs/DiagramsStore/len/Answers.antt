use Rattle.std.proofs.Common.{sym}
use Rattle.diagrams.specs.Cutting.{size_means}
use Rattle.diagrams.proofs.DiagramsStore.len.Goals as goal

pub returns : goal.returns
returns c = sym (size_means c.args.self.now.words.now)

use Rattle.std.proofs.Common.{arith}
use Rattle.sources.proofs.Lines.{lines_few}
use Rattle.sources.proofs.place.SourceLines.new.Goals as goal

pub invariant_of-result : goal.invariant_of-result
invariant_of-result c = record { countable = omega (arith, lines_few c.args.source.now) }

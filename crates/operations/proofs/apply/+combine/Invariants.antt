use Rattle.std.proofs.Common.{◌+◌}
use Rattle.operations.proofs.apply.+combine.Given as goal

abbrev pub decreases-combine : goal.decreases-combine
decreases-combine l = l.a + l.b

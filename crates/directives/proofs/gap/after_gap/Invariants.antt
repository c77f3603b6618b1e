use Rattle.std.proofs.Common.{◌≡◌, length}
use Rattle.directives.specs.Gaps.{skip, between}
use Rattle.directives.proofs.gap.after_gap.Given as goal

abbrev pub invariant-loop-rest : goal.invariant-loop-rest
invariant-loop-rest l = skip between l.rest ≡ skip between l.line

abbrev pub decreases-loop-rest : goal.decreases-loop-rest
decreases-loop-rest l = length l.rest

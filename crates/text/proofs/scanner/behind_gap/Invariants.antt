use Rattle.std.proofs.Common.{◌≡◌, length, drop}
use Rattle.text.specs.Tokens.{gap, between}
use Rattle.text.proofs.scanner.behind_gap.Given as goal

abbrev pub invariant-loop-rest : goal.invariant-loop-rest
invariant-loop-rest l = drop (gap l.comments between l.rest) l.rest ≡ drop (gap l.comments between l.text) l.text

abbrev pub decreases-loop-rest : goal.decreases-loop-rest
decreases-loop-rest l = length l.rest

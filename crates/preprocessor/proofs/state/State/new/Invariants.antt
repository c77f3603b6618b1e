use Rattle.std.proofs.Common.{◌≡◌, length}
use Rattle.preprocessor.proofs.Flags.{Bits}
use Rattle.preprocessor.proofs.state.State.new.Given as goal

abbrev pub invariant-loop-i : goal.invariant-loop-i
invariant-loop-i l = (length l.flags ≡ 64) × Bits l.i l.configuration l.flags

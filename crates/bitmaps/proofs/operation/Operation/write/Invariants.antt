use Rattle.bitmaps.proofs.Writes.{Part}
use Rattle.bitmaps.proofs.operation.Operation.write.Given as goal

abbrev pub invariant-loop-t : goal.invariant-loop-t
invariant-loop-t l = Part l.switches.n l.to l.self l.initial.words l.words l.t

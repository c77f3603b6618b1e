use Rattle.layers.proofs.Switching.{Turn}
use Rattle.layers.proofs.preparation.work_out.Given as goal

abbrev pub invariant-loop-i : goal.invariant-loop-i
invariant-loop-i g l =
    let s = g.S.Store in
    Turn s.model s.rollback s.need l.i-end l.top l.initial.store l.i l.switches l.store

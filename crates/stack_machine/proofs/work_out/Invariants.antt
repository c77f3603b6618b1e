use Rattle.std.proofs.Common.{◌≤◌, length, reverse}
use Rattle.stack_machine.proofs.Machine.{GoesOn}
use Rattle.stack_machine.proofs.work_out.Given as goal

abbrev pub invariant-loop-step : goal.invariant-loop-step
invariant-loop-step g l =
    g.I.Interpretation.goes l.initial.state l.state
    × (length l.stack.items ≤ l.step-index)
    × GoesOn (g.I.Interpretation.gives l.by) l.idle l.step-items l.initial.state l.state l.step-index (reverse l.stack.items)

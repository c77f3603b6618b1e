use Rattle.std.proofs.Common.{◌≡◌, vec_items}
use Rattle.judging.specs.Judged.{AllStand}
use Rattle.judging.proofs.judge_switches.Given as goal

abbrev pub invariant-loop-i : goal.invariant-loop-i
invariant-loop-i g l = (l.store ≡ l.initial.store) × AllStand (g.S.Store.model l.initial.store).allowed l.i (vec_items l.standings)

use Rattle.std.proofs.Common.{length}
use Rattle.stores.specs.Outcome.{Advanced}
use Rattle.rules.proofs.Loop.{GoesOn}
use Rattle.rules.proofs.reading.read_lines.Given as goal

abbrev pub invariant-loop-rest : goal.invariant-loop-rest
invariant-loop-rest g l =
    Advanced g.S.Store.model g.S.Store.rollback l.initial.store l.store
    × GoesOn g.S.Store.model g.S.Store.rollback g.S.Store.need l.reading l.lines l.text l.initial.store l.allowed l.number l.rest l.store

abbrev pub decreases-loop-rest : goal.decreases-loop-rest
decreases-loop-rest g l = length l.rest

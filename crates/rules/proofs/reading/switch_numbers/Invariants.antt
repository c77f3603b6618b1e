use Rattle.std.proofs.Common.{◌≡◌, length}
use Rattle.stores.specs.Outcome.{Advanced}
use Rattle.rules.proofs.Switching.{GoesOn}
use Rattle.rules.proofs.reading.switch_numbers.Given as goal

abbrev pub invariant-loop-i : goal.invariant-loop-i
invariant-loop-i g l =
    Advanced g.S.Store.model g.S.Store.rollback l.initial.store l.store
    × (length l.numbers.items ≡ l.i)
    × GoesOn g.S.Store.model g.S.Store.rollback g.S.Store.need (g.S.Store.model l.initial.store).n l.initial.store l.i l.numbers.items l.store

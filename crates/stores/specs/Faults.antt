-- The numbers of a store's faults. Assumes nothing.
--   described f l   the refusal that the fault f is, while line l is being read (0 outside the lines)
use Rattle.std.specs.Prelude.{ℕ}
use Rattle.faults.specs.declared.Refusal.{Refusal}
use Rattle.faults.specs.declared.Layer.TheVariants.{Store}
use Rattle.stores.specs.declared.fault.StoreFault.{StoreFault}
use Rattle.stores.specs.declared.fault.StoreFault.TheVariants.{NoSwitch, NoNumber, Full, NoConfiguration, TooSmall, TooManySwitches}

abbrev pub numbered : ℕ → ℕ → Refusal
numbered number line = record { number = number; layer = Store; line = line; byte = 0 }

abbrev pub described : StoreFault → ℕ → Refusal
described NoSwitch line = numbered 1 0
described NoNumber line = numbered 2 0
described Full line = numbered 3 line
described NoConfiguration line = numbered 4 0
described TooSmall line = numbered 6 0
described TooManySwitches line = numbered 7 0

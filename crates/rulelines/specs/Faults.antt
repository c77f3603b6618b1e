-- The numbers of what rule lines are refused for. Assumes nothing.
--   declarations l    number 23: something is wrong with line l, or with the declarations as a whole (l is 0)
--   described f       the refusal that the fault f is
use Rattle.std.specs.Prelude.{ℕ}
use Rattle.faults.specs.declared.Refusal.{Refusal}
use Rattle.faults.specs.declared.Layer.TheVariants.{Rules}
use Rattle.stores.specs.Faults.{described as store}
use Rattle.expressions.specs.Faults.{described as expression}
use Rattle.rulelines.specs.declared.fault.RuleFault.{RuleFault}
use Rattle.rulelines.specs.declared.fault.RuleFault.TheVariants.{Store, Expression, Misplaced, DeclaredTwice, Undeclared, Names, NoBegin}

abbrev pub declarations : ℕ → Refusal
declarations l = record { number = 23; layer = Rules; line = l; byte = 0 }

abbrev pub described : RuleFault → Refusal
described (Store f l) = store f l
described (Expression f) = expression f
described (Misplaced l) = declarations l
described (DeclaredTwice l) = declarations l
described (Undeclared l) = declarations l
described Names = declarations 0
described NoBegin = declarations 0

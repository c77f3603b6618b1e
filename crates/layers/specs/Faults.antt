-- The numbers of a rule layer's faults. Assumes nothing.
--   described f   the refusal that the fault f is: a store's fault is carried up as the store describes it outside the lines
use Rattle.faults.specs.declared.Refusal.{Refusal}
use Rattle.faults.specs.declared.Layer.TheVariants.{Rules}
use Rattle.stores.specs.Faults.{described as by_store}
use Rattle.layers.specs.declared.fault.LayerFault.{LayerFault}
use Rattle.layers.specs.declared.fault.LayerFault.TheVariants.{Store, NoneAllowed}

abbrev pub described : LayerFault → Refusal
described (Store f) = by_store f 0
described NoneAllowed = record { number = 5; layer = Rules; line = 0; byte = 0 }

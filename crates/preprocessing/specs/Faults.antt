-- The refusals of preprocessing. Assumes nothing.
--   outside n l     the refusal n of the layer l, which names no place
--   described f     the refusal that the fault f is; want of memory is none
use Rattle.std.specs.Prelude.{ℕ, Some, None, Option}
use Rattle.faults.specs.declared.Refusal.{Refusal}
use Rattle.faults.specs.declared.Layer.{Layer}
use Rattle.faults.specs.declared.Layer.TheVariants.{Store, Session}
use Rattle.sources.specs.Faults.{described as source}
use Rattle.preprocessing.specs.declared.fault.PreprocessingFault.{PreprocessingFault}
use Rattle.preprocessing.specs.declared.fault.PreprocessingFault.TheVariants.{TooManySwitches, Names, NoConfiguration, Source, OutOfMemory}

abbrev pub outside : ℕ → Layer → Refusal
outside number layer = record { number = number; layer = layer; line = 0; byte = 0 }

abbrev pub described : PreprocessingFault → Option Refusal
described TooManySwitches = Some (outside 7 Store)
described Names = Some (outside 23 Session)
described NoConfiguration = Some (outside 4 Session)
described (Source f) = Some (source f)
described OutOfMemory = None

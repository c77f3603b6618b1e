-- The refusals of judging a rule text. Assumes nothing.
--   described f        the refusal that the fault f is; want of memory is none
--   of_declarations f   a fault of the `switch` lines
use Rattle.faults.specs.declared.Refusal.{Refusal}
use Rattle.std.specs.Prelude.{Some, None, Option}
use Rattle.stores.specs.Faults.{described as store}
use Rattle.layers.specs.Faults.{described as layer}
use Rattle.rulelines.specs.Faults.{described as rules}
use Rattle.rulelines.specs.declared.declaration.DeclarationFault.{DeclarationFault}
use Rattle.rulelines.specs.declared.declaration.DeclarationFault.TheVariants as declaration
use Rattle.judging.specs.declared.fault.JudgingFault.{JudgingFault}
use Rattle.judging.specs.declared.fault.JudgingFault.TheVariants.{Rules, Store, Layer, OutOfMemory}

abbrev pub described : JudgingFault → Option Refusal
described (Rules f) = Some (rules f)
described (Store f) = Some (store f 0)
described (Layer f) = Some (layer f)
described OutOfMemory = None

abbrev pub of_declarations : DeclarationFault → JudgingFault
of_declarations (declaration.Rules f) = Rules f
of_declarations declaration.OutOfMemory = OutOfMemory

-- What the functions that read `switch` lines do. Assumes nothing.
--   NameOutcome names l z r     the name of a `switch` line l whose tokens read as z, behind the names before it; or the refusal
--   DeclarationsOutcome text r  the declarations of the text, or its refusal; want of memory is neither
use Rattle.std.specs.Prelude.{◌≡◌, ℕ, List, [], ◌∷◌, ◌++◌, Ok, Err, vec_items, Result}
use Rattle.std.specs.Borrow.{Bor}
use Rattle.faults.specs.declared.Refusal.{Refusal}
use Rattle.names.specs.Names.{texts}
use Rattle.text.specs.Tokens.{Bytes}
use Rattle.rulelines.specs.declared.fault.RuleFault.{RuleFault}
use Rattle.rulelines.specs.declared.declaration.Declarations.{Declarations}
use Rattle.rulelines.specs.declared.declaration.DeclarationFault.{DeclarationFault}
use Rattle.rulelines.specs.declared.declaration.DeclarationFault.TheVariants.{Rules, OutOfMemory}
use Rattle.rulelines.specs.Faults.{described}
use Rattle.rulelines.specs.Declaring.{Declared, named, declared_in}

abbrev pub NameOutcome : List Bytes → ℕ → Result Bytes Refusal → Result (Bor Bytes) RuleFault → Type 0
NameOutcome names l z (Ok x) = (next : List Bytes → Result Declared Refusal) → named names l next z ≡ next (names ++ x.now ∷ [])
NameOutcome names l z (Err f) = (next : List Bytes → Result Declared Refusal) → named names l next z ≡ Err (described f)

abbrev pub declared_of : Declarations → Declared
declared_of d = record { names = texts (vec_items d.names); lines = d.lines; rest = d.rest.now }

abbrev pub DeclarationsOutcome : Bytes → Result Declarations DeclarationFault → Type 0
DeclarationsOutcome text (Ok d) = declared_in text ≡ Ok (declared_of d)
DeclarationsOutcome text (Err (Rules f)) = declared_in text ≡ Err (described f)
DeclarationsOutcome text (Err OutOfMemory) = Unit {0}

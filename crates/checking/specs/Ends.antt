-- With what status a program over rule texts ends. Assumes nothing.
-- S is the type of the store, T its ghost members as a store, and W the type of the words that it lies in.
--   Ends text ws code   the status is 0, and the text has a judgement; or it is 1, and the text is refused with a number over a store in the words ws
use Rattle.std.specs.Prelude.{◌≡◌, ℕ, ◌⊎◌, List, Option, IsSome}
use Rattle.std.specs.Process.{exit_status}
use Rattle.std.specs.declared.process.ExitCode.{ExitCode}
use Rattle.stores.specs.declared.Store.{Ghosts}
use Rattle.stores.specs.declared.fault.StoreFault.{StoreFault}
use Rattle.judging.specs.Faults.{described}
use Rattle.judging.specs.Texts.{JudgedText}
use Rattle.judging.specs.Refused.{TextRefused}
use Rattle.judging.specs.declared.Judgement.{Judgement}
use Rattle.judging.specs.declared.fault.JudgingFault.{JudgingFault}

abbrev pub Ends : {W S : Type 0} → Ghosts S → (S → List W) → (List W → ℕ → Option StoreFault) → (List W → ℕ → ℕ) → (List W → ℕ → List W → Type 0)
    → List ℕ → List W → ExitCode → Type 0
Ends T lies_in due room renewed text ws code =
    ((judgement : Judgement) × JudgedText text judgement × (exit_status code ≡ 0))
    ⊎ ((fault : JudgingFault) × TextRefused T lies_in due room renewed text ws fault × IsSome (described fault) × (exit_status code ≡ 1))

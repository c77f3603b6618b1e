-- Why a rule text is not judged. Assumes nothing.
-- S is the type of the store, T its ghost members as a store, and W the type of the words that it lies in.
--   SwitchRefused s f             the store s refused to tell how some switch stands
--   OverRefused names l text s f  the rules of the text, read over the store s, were refused; or they were read and the layer over them was; or the
--                                 layer was made and a switch was refused
--   TextRefused text ws f         the `switch` lines were refused; or the store in the words ws; or what follows over that store
-- Want of memory says nothing.
use Rattle.std.specs.Prelude.{◌≡◌, ℕ, ◌-◌, ◌^◌, ◌<◌, min, ◌⊎◌, List, length, Some, Ok, Err, Option}
use Rattle.stores.specs.Model.{Model, set_at}
use Rattle.stores.specs.Outcome.{Op}
use Rattle.stores.specs.declared.fault.StoreFault.{StoreFault}
use Rattle.stores.specs.Making.{New}
use Rattle.stores.specs.declared.Store.{Ghosts}
use Rattle.layers.specs.Layered.{layer_model, layer_need, layer_rollback}
use Rattle.layers.specs.Making.{MakeAttempts}
use Rattle.layers.specs.declared.Layer.{Layer}
use Rattle.layers.specs.declared.MakeError.{MakeError}
use Rattle.text.specs.Tokens.{Bytes}
use Rattle.rulelines.specs.Faults.{described}
use Rattle.rulelines.specs.Declaring.{Declared, declared_in}
use Rattle.rules.specs.Read.{RulesOutcome}
use Rattle.rulelines.specs.declared.fault.RuleFault.{RuleFault}
use Rattle.rules.specs.declared.reading.Rules.{Rules}
use Rattle.standing.specs.Standing.{StandingOutcome}
use Rattle.judging.specs.declared.fault.JudgingFault.{JudgingFault}
use Rattle.judging.specs.declared.fault.JudgingFault.TheVariants as judging

abbrev pub SwitchRefused : {S : Type 0} → (S → Model) → (S → ℕ → S) → (S → Op → ℕ) → S → JudgingFault → Type 0
SwitchRefused model rollback need s (judging.Store f) =
    (i : ℕ) × (top : ℕ) × (top < (model s).floor) × (set_at (model s) top ≡ (model s).allowed) × StandingOutcome model rollback need top i s (Err f)
SwitchRefused model rollback need s (judging.Rules f) = ⊥
SwitchRefused model rollback need s (judging.Layer f) = ⊥
SwitchRefused model rollback need s judging.OutOfMemory = Unit {0}

abbrev pub OverRefused : {S : Type 0} → Ghosts S → List Bytes → ℕ → Bytes → S → JudgingFault → Type 0
OverRefused {S} T names l text s (judging.Rules f) = (s₁ : S) × RulesOutcome T.model T.rollback T.need names l text s s₁ (Err f)
OverRefused {S} T names l text s (judging.Layer f) =
    (s₁ : S) × (rules : Rules) × (e : MakeError S) × RulesOutcome T.model T.rollback T.need names l text s s₁ (Ok rules)
    × MakeAttempts {T = T} s₁ rules.allowed (Err e) × (e.fault ≡ f)
OverRefused {S} T names l text s (judging.Store f) =
    (s₁ : S) × (rules : Rules) × (layer : Layer S T) × RulesOutcome T.model T.rollback T.need names l text s s₁ (Ok rules)
    × MakeAttempts s₁ rules.allowed (Ok layer) × SwitchRefused layer_model layer_rollback layer_need layer (judging.Store f)
OverRefused T names l text s judging.OutOfMemory = Unit {0}

abbrev pub TextRefused : {W S : Type 0} → Ghosts S → (S → List W) → (List W → ℕ → Option StoreFault) → (List W → ℕ → ℕ) → (List W → ℕ → List W → Type 0)
    → Bytes → List W → JudgingFault → Type 0
TextRefused {W} {S} T lies_in due room renewed text ws f =
    ((g : RuleFault) × (f ≡ judging.Rules g) × (declared_in text ≡ Err (described g)))
    ⊎ (((d : Declared) × (g : StoreFault) × (f ≡ judging.Store g) × (declared_in text ≡ Ok d) × (due ws (min (length d.names) (2 ^ 32 - 1)) ≡ Some g))
    ⊎ (((d : Declared) × (s : S) × (declared_in text ≡ Ok d) × New T.model lies_in due room renewed ws (length d.names) s
    × OverRefused T d.names d.lines d.rest s f)
    ⊎ (f ≡ judging.OutOfMemory)))

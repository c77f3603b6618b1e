-- A refusal of a switch is one of the whole.
use Rattle.std.proofs.Common.{◌≡◌, ℕ, List, Ok, Err, Option, Result, sym, refl, subst, inl, inr}
use Rattle.stores.specs.declared.fault.StoreFault.{StoreFault}
use Rattle.stores.specs.declared.Store.{Ghosts}
use Rattle.layers.specs.Layered.{layer_model, layer_need, layer_rollback}
use Rattle.layers.specs.Making.{MakeAttempts, Made, Makes}
use Rattle.layers.specs.declared.MakeError.{MakeError}
use Rattle.layers.specs.declared.fault.LayerFault.{LayerFault}
use Rattle.stores.proofs.Runs.{ok_same, err_same, ok_not_err}
use Rattle.judging.specs.Layered.{told, LayerOutcome}
use Rattle.layers.specs.declared.Layer.{Layer}
use Rattle.text.specs.Tokens.{Bytes}
use Rattle.rules.specs.Read.{RulesOutcome}
use Rattle.rules.specs.declared.reading.Rules.{Rules}
use Rattle.judging.specs.declared.fault.JudgingFault.{JudgingFault}
use Rattle.judging.specs.declared.fault.JudgingFault.TheVariants as judging
use Rattle.rulelines.specs.Declarations.{DeclarationsOutcome}
use Rattle.rulelines.specs.declared.declaration.DeclarationFault.{DeclarationFault}
use Rattle.rulelines.specs.declared.declaration.DeclarationFault.TheVariants as declaration
use Rattle.judging.specs.Faults.{of_declarations}
use Rattle.judging.specs.Refused.{SwitchRefused, OverRefused, TextRefused}

pub over_switch : {S : Type 0} (T : Ghosts S) (names : List Bytes) (l : ℕ) (text : Bytes) (s s₁ : S) (rules : Rules) (layer : Layer S T) (f : JudgingFault)
    → RulesOutcome T.model T.rollback T.need names l text s s₁ (Ok rules) → MakeAttempts s₁ rules.allowed (Ok layer)
    → SwitchRefused layer_model layer_rollback layer_need layer f → OverRefused T names l text s f
over_switch T names l text s s₁ rules layer (judging.Store f) r m h = (s₁, rules, layer, r, m, h)
over_switch T names l text s s₁ rules layer (judging.Rules f) r m h = absurd h
over_switch T names l text s s₁ rules layer (judging.Layer f) r m h = absurd h
over_switch T names l text s s₁ rules layer judging.OutOfMemory r m h = tt

-- a layer that was made, and one that was not
pub layer_made : {S : Type 0} {T : Ghosts S} (s : S) (a : ℕ) (l : Layer S T) → LayerOutcome T s a (Ok l) → MakeAttempts s a (Ok l) × Made s a l
layer_made {S} {T} s a l h = by_made h.made h.is h.attempts h.makes
  where
    by_made : (r : Result (Layer S T) (MakeError S)) → ◌≡◌ {A = Result (Layer S T) LayerFault} (Ok l) (told r) → MakeAttempts s a r → Makes s a r → MakeAttempts s a (Ok l) × Made s a l
    by_made (Ok x) e h m = subst (λ (y : Layer S T). MakeAttempts s a (Ok y) × Made s a y) (sym (ok_same {F = LayerFault} e)) (h, m)
    by_made (Err x) e h m = absurd (ok_not_err e)

pub layer_refused : {S : Type 0} {T : Ghosts S} (s : S) (a : ℕ) (f : LayerFault) → LayerOutcome T s a (Err f) → (e : MakeError S) × MakeAttempts {T = T} s a (Err e) × (e.fault ≡ f)
layer_refused {S} {T} s a f h = by_made h.made h.is h.attempts
  where
    by_made : (r : Result (Layer S T) (MakeError S)) → ◌≡◌ {A = Result (Layer S T) LayerFault} (Err f) (told r) → MakeAttempts s a r → (e : MakeError S) × MakeAttempts {T = T} s a (Err e) × (e.fault ≡ f)
    by_made (Ok x) e h = absurd (ok_not_err (sym e))
    by_made (Err x) e h = (x, h, sym (err_same {A = Layer S T} e))

-- the first of the ways in which a text is refused
pub undeclared : {W S : Type 0} (T : Ghosts S) (lies_in : S → List W) (due : List W → ℕ → Option StoreFault) (room : List W → ℕ → ℕ) (renewed : List W → ℕ → List W → Type 0)
    (text : Bytes) (ws : List W) (f : DeclarationFault) → DeclarationsOutcome text (Err f) → TextRefused T lies_in due room renewed text ws (of_declarations f)
undeclared T lies_in due room renewed text ws (declaration.Rules g) h = inl (g, refl, h)
undeclared T lies_in due room renewed text ws declaration.OutOfMemory h = inr (inr (inr refl))

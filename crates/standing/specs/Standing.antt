-- How a switch stands among the allowed configurations. Assumes nothing.
--   Stands A i v        `On`: every configuration of A has switch i on; `Off`: none has; `Free`: some have and some have not
--   asking i            what finding it out asks of a store: the configurations with the switch on, and then, where there are some, those without
--   StandingOutcome     answered: how the switch stands; refused: the first refusal due. The store is as it was either way
use Rattle.std.specs.Prelude.{◌≡◌, ℕ, true, false, cond, Result}
use Rattle.stores.specs.Sets.{Set, on}
use Rattle.stores.specs.Model.{Model}
use Rattle.stores.specs.Outcome.{Op, switch, less}
use Rattle.stores.specs.Steps.{Steps, done, ask, test, Runs}
use Rattle.stores.specs.declared.fault.StoreFault.{StoreFault}
use Rattle.standing.specs.declared.verdict.Standing.{Standing}
use Rattle.standing.specs.declared.verdict.Standing.TheVariants.{Free, On, Off}

abbrev pub Has : Set → Set → Type 0
Has a b = (k : ℕ) × (a k ≡ true) × (b k ≡ true)

abbrev pub Lacks : Set → Set → Type 0
Lacks a b = (k : ℕ) × (a k ≡ true) × (b k ≡ false)

abbrev pub Stands : Set → ℕ → Standing → Type 0
Stands A i On = (k : ℕ) → A k ≡ true → on i k ≡ true
Stands A i Off = (k : ℕ) → A k ≡ true → on i k ≡ false
Stands A i Free = Has A (on i) × Lacks A (on i)

abbrev pub asking : ℕ → ℕ → Steps Standing StoreFault
asking top i =
    ask (switch i) (λ f. f) (λ x. test x (λ none. cond none (done Off)
    (ask (less top x) (λ f. f) (λ y. test y (λ all. cond all (done On) (done Free))))))

abbrev pub StandingOutcome : {S : Type 0} → (S → Model) → (S → ℕ → S) → (S → Op → ℕ) → ℕ → ℕ → S → Result Standing StoreFault → Type 0
StandingOutcome {S} model rollback need top i s r = (s₁ : S) × Runs model rollback need (asking top i) s s₁ r

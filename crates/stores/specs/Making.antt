-- Making a store in words that are handed in. Assumes nothing.
-- W is the type of a word and S that of the store, whose ghost members are `model`, `lies_in`, `due`, `room` and `renewed`.
--   new_model n c            what a new store means: only the empty set and all configurations are held
--   Prepared ws n ws' r      accepted: no refusal was due, and the words are a new store's; refused: that fault was due, and every word is as it was
--   New ws n s               s was made of the words ws: no refusal was due, it means the new model, and its words are the new ones
--   Made ws n r              accepted: the store is new; refused: that fault was due
use Rattle.std.specs.Prelude.{◌≡◌, ℕ, List, [], ◌∷◌, Some, None, Ok, Err, Option, Result}
use Rattle.stores.specs.Sets.{empty, everything}
use Rattle.stores.specs.Model.{Model}
use Rattle.stores.specs.declared.fault.StoreFault.{StoreFault}

abbrev pub new_model : ℕ → ℕ → Model
new_model n c =
    record {
      n = n;
      allowed = everything n;
      held = empty ∷ everything n ∷ [];
      floor = 2;
      capacity = c;
    }

abbrev pub Prepared : {W : Type 0} → (List W → ℕ → Option StoreFault) → (List W → ℕ → List W → Type 0) → List W → ℕ → List W → Result (Unit {0}) StoreFault → Type 0
Prepared due renewed ws n ws' (Ok _) = (due ws n ≡ None) × renewed ws n ws'
Prepared due renewed ws n ws' (Err f) = (due ws n ≡ Some f) × (ws' ≡ ws)

pub record New {W S : Type 0} (model : S → Model) (lies_in : S → List W) (due : List W → ℕ → Option StoreFault) (room : List W → ℕ → ℕ)
    (renewed : List W → ℕ → List W → Type 0) (ws : List W) (n : ℕ) (s : S) : Type 0 where
  pub fine : due ws n ≡ None
  pub means : model s ≡ new_model n (room ws n)
  pub lies : renewed ws n (lies_in s)

abbrev pub Made : {W S : Type 0} → (S → Model) → (S → List W) → (List W → ℕ → Option StoreFault) → (List W → ℕ → ℕ)
    → (List W → ℕ → List W → Type 0) → List W → ℕ → Result S StoreFault → Type 0
Made model lies_in due room renewed ws n (Ok s) = New model lies_in due room renewed ws n s
Made model lies_in due room renewed ws n (Err f) = due ws n ≡ Some f

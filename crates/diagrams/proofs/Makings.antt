-- A new store.
use Rattle.std.proofs.Common.{◌≡◌, ℕ, List, [], ◌∷◌, length, ◌∙◌}
use Rattle.stores.specs.Sets.{Set, everything}
use Rattle.stores.specs.Model.{Model}
use Rattle.stores.specs.Making.{new_model}
use Rattle.cells.specs.Words.{capacity, New, ends}
use Rattle.diagrams.specs.Meaning.{model_of, means}
use Rattle.diagrams.proofs.Sets.{empty_cell, full_cell}
use Rattle.diagrams.specs.Cutting.{capacity_same}

abbrev holding : ℕ → ℕ → List Set → Model
holding n cap sets = record { n = n; allowed = everything n; held = sets; floor = 2; capacity = cap }

pub means_new : (ws : List ℕ) (n : ℕ) (ws' : List ℕ) → length ws' ≡ length ws → New ws n ws' → means ws' ≡ new_model n (capacity ws)
means_new ws n ws' len new =
    (λ i. model_of (new.switches_are i) (new.cells_are i) (capacity_same ws ws' len i))
    ∙ (λ i. holding n (capacity ws) (empty_cell n ends i ∷ full_cell n ends i ∷ []))

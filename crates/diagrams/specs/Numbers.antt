-- What the numbers of a diagram store tell. Assumes nothing.
--   Canonical         two numbers of one store are equal exactly when their sets are
--   Reachable         every cell that an accepted operation adds is in the diagram of its answer
use Rattle.std.specs.Prelude.{◌≡◌, ℕ, ◌<◌, ◌≤◌, Bool, List}
use Rattle.stores.specs.Model.{size, set_at}
use Rattle.cells.specs.Cells.{build, Reaches}
use Rattle.cells.specs.Words.{switches, count, cells_of, Valid, Accepted}
use Rattle.diagrams.specs.Meaning.{means}

abbrev pub Canonical : Type 0
Canonical =
    (ws : List ℕ) → Valid ws → (a b : ℕ) → a < size (means ws) → b < size (means ws)
    → (set_at (means ws) a ≡ set_at (means ws) b → a ≡ b) × (a ≡ b → set_at (means ws) a ≡ set_at (means ws) b)

abbrev pub Reachable : Type 0
Reachable =
    (ws ws' : List ℕ) → Valid ws → (f : ℕ → Bool) (r : ℕ) → Accepted ws ws' (build (cells_of ws) (switches ws) f) r
    → (c : ℕ) → count ws ≤ c → c < count ws' → Reaches (cells_of ws') r c

-- What a condition store means. Assumes nothing.
--   Model            the number of switches, the allowed configurations, the held sets by number, the floor below which
--                    nothing is released, and the capacity
--   size m           how many sets are held
--   set_at m a        the set held under number a
--   Consistent m     the bounds that every store keeps, and that some configuration is allowed
--   Unmoved m m'     all but the held sets is as it was
--   Appended m m' k  exactly k sets were appended, and none before them changed
--   kept m to        how many sets a release to `to` leaves
--   CutTo m m' to    the held sets were cut as a release to `to` cuts them
use Rattle.std.specs.Prelude.{◌≡◌, ℕ, ◌+◌, ◌^◌, ◌<◌, ◌≤◌, min, max, true, List, length, take, slice_index_or}
use Rattle.stores.specs.Sets.{Set, empty, Empty}

pub record Model : Type 0 where
  pub n : ℕ
  pub allowed : Set
  pub held : List Set
  pub floor : ℕ
  pub capacity : ℕ

abbrev pub size : Model → ℕ
size m = length m.held

abbrev pub set_at : Model → ℕ → Set
set_at m a = slice_index_or m.held a empty

pub record Consistent (m : Model) : Type 0 where
  pub few : m.n ≤ 24
  pub within : (k : ℕ) → m.allowed k ≡ true → k < 2 ^ m.n
  pub some : Empty m.allowed → ⊥
  pub inside : (a k : ℕ) → set_at m a k ≡ true → k < 2 ^ m.n
  pub floor : m.floor ≤ length m.held
  pub room : length m.held ≤ m.capacity

pub record Unmoved (m m' : Model) : Type 0 where
  pub n : m'.n ≡ m.n
  pub allowed : m'.allowed ≡ m.allowed
  pub floor : m'.floor ≡ m.floor
  pub capacity : m'.capacity ≡ m.capacity

pub record Appended (m m' : Model) (more : ℕ) : Type 0 where
  pub same : Unmoved m m'
  pub before : take (length m.held) m'.held ≡ m.held
  pub len : length m'.held ≡ length m.held + more

abbrev pub kept : Model → ℕ → ℕ
kept m to = max m.floor (min (length m.held) to)

pub record CutTo (m m' : Model) (to : ℕ) : Type 0 where
  pub same : Unmoved m m'
  pub held : m'.held ≡ take (kept m to) m.held

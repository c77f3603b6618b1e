-- What judging a rule text answers. Assumes nothing.
--   AllStand A n vs      of each of n switches, in order, how it stands in A
--   Judged A n vs k      these, and k is the lowest configuration of A
--   allowed_in n d        the configurations of n switches that the rules behind the declarations d allow
use Rattle.std.specs.Prelude.{◌≡◌, ℕ, ◌^◌, ◌<◌, List, length, nat_lt, slice_index_or}
use Rattle.stores.specs.Sets.{Set, Lowest}
use Rattle.lines.specs.Lines.{lines_of}
use Rattle.rulelines.specs.Declaring.{Declared}
use Rattle.rules.specs.Allowed.{allowed_by}
use Rattle.standing.specs.declared.verdict.Standing.{Standing}
use Rattle.standing.specs.declared.verdict.Standing.TheVariants.{Free}
use Rattle.standing.specs.Standing.{Stands}

abbrev pub AllStand : Set → ℕ → List Standing → Type 0
AllStand A n vs = (length vs ≡ n) × ((i : ℕ) → i < n → Stands A i (slice_index_or vs i Free))

abbrev pub Judged : Set → ℕ → List Standing → ℕ → Type 0
Judged A n vs k = AllStand A n vs × Lowest A k

abbrev pub allowed_in : ℕ → Declared → Set
allowed_in n d = allowed_by (λ k. nat_lt k (2 ^ n)) d.names (lines_of d.rest)

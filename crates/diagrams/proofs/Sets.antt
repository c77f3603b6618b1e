-- The sets that are held.
use Rattle.std.proofs.Common.{◌≡◌, ℕ, ◌*◌, ◌%◌, ◌^◌, ◌<◌, ◌≤◌, Bool, true, false, ◌&&◌, ltb, List, length, Some, None, Option, sym, refl, ap, ◌∙◌, subst, ⊎_elim, arith}
use Rattle.std.proofs.lemmas.Nat.{one_shl}
use Rattle.std.proofs.lemmas.Bool.{cases_lt, and_right}
use Rattle.stores.specs.Sets.{Set, empty, everything, LowestIf}
use Rattle.stores.specs.Model.{set_at}
use Rattle.cells.specs.Cells.{Cell, mean, Reaches}
use Rattle.cells.specs.Words.{switches, count, cells_of, Valid, LowestOf}
use Rattle.cells.proofs.Held.{canonical}
use Rattle.cells.proofs.Need.{needed}
use Rattle.cells.proofs.Chained.{length_cells}
use Rattle.cells.proofs.Steps.{mean_none, mean_all}
use Rattle.diagrams.specs.Meaning.{cell_set, means}
use Rattle.diagrams.specs.Numbers.{Canonical, Reachable}
use Rattle.diagrams.specs.Cutting.{size_means, set_means, set_inside, set_outside}

and_true : (b : Bool) → (b && true) ≡ b
and_true true = refl
and_true false = refl

pub empty_cell : (n : ℕ) (cs : List Cell) → cell_set n cs 0 ≡ empty
empty_cell n cs = λ i k. and_right (ltb k (2 ^ n)) (mean cs 0 k) (mean_none cs k) i

pub full_cell : (n : ℕ) (cs : List Cell) → cell_set n cs 1 ≡ everything n
full_cell n cs = λ i k. (ap (λ (b : Bool). ltb k (2 ^ n) && b) (mean_all cs k) ∙ and_true (ltb k (2 ^ n))) i

-- the two sets that are always held
pub none_set : (ws : List ℕ) → Valid ws → set_at (means ws) 0 ≡ empty
none_set ws v = set_means ws 0 (omega (arith, v.formed.reduced.two, length_cells ws)) ∙ empty_cell (switches ws) (cells_of ws)

pub top_set : (ws : List ℕ) → Valid ws → set_at (means ws) 1 ≡ (means ws).allowed
top_set ws v = set_means ws 1 (omega (arith, v.formed.reduced.two, length_cells ws)) ∙ full_cell (switches ws) (cells_of ws)

pub configuration_below : (n k : ℕ) → n ≤ 24 → k < (1 * 2 ^ n) % 4294967296 → k < 2 ^ n
configuration_below n k few h = omega (arith, h, one_shl n 32 (omega (arith, few)))

-- the lowest configuration of a cell is the lowest of its set
pub lowest_held : (ws : List ℕ) (a : ℕ) (r : Option ℕ) → a < count ws → LowestOf ws a r → LowestIf (set_at (means ws) a) r
lowest_held ws a None h l = λ k. ⊎_elim
    (λ (lt : k < 2 ^ switches ws). set_inside ws a k h lt ∙ l k lt)
    (λ (le : 2 ^ switches ws ≤ k). set_outside ws a k le)
    (cases_lt k (2 ^ switches ws))
lowest_held ws a (Some k) h l =
    record {
      within = set_inside ws a k h l.0 ∙ l.1;
      first = λ j lt. set_inside ws a j h (omega (arith, lt, l.0)) ∙ l.2 j lt;
    }

pub canonical_numbers : Canonical
canonical_numbers ws v a b ha hb =
    let la : a < count ws = omega (arith, ha, size_means ws) in
    let lb : b < count ws = omega (arith, hb, size_means ws) in (
      (λ e. canonical (switches ws) (cells_of ws) v.formed.reduced a b (omega (arith, la, length_cells ws)) (omega (arith, lb, length_cells ws))
          (λ k h. sym (set_inside ws a k la h) ∙ ap (λ (x : Set). x k) e ∙ set_inside ws b k lb h)),
      (λ e. ap (set_at (means ws)) e),
    )

pub added_reachable : Reachable
added_reachable ws ws' v f r x c lo hi =
    let P : List Cell × ℕ → Type 0 = λ p. (c : ℕ) → length (cells_of ws) ≤ c → c < length p.0 → Reaches p.0 p.1 c in
    subst P (sym x.answers) (needed (switches ws) (cells_of ws) v.formed.reduced f).0 c (omega (arith, lo, length_cells ws)) (omega (arith, hi, length_cells ws'))

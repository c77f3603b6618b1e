-- Writing a cell to its place.
use Rattle.std.proofs.Common.{◌≡◌, ℕ, ◌+◌, ◌*◌, ◌<◌, ◌≤◌, ◌⊎◌, List, length, get_or, set, ◌∙◌, subst, arith}
use Rattle.std.proofs.lemmas.List.{length-set, get_or-set_same, get_or-set_other}
use Rattle.cells.specs.Cells.{Cell}
use Rattle.cells.specs.Words.{cell_at, written}

pub record Wrote (ws ws' : List ℕ) (c : ℕ) (x : Cell) : Type 0 where
  pub cell_now : cell_at ws' c ≡ x
  pub length_now : length ws' ≡ length ws
  pub other : (i : ℕ) → (i < 1090 + 4 * c) ⊎ (1090 + 4 * c + 3 ≤ i) → get_or ws' i 0 ≡ get_or ws i 0

pub written_places : (ws : List ℕ) (c : ℕ) (x : Cell) → 1090 + 4 * c + 3 ≤ length ws → Wrote ws (written ws c x) c x
written_places ws c x room =
    let p : ℕ = 1090 + 4 * c in
    let l₀ : List ℕ = set ws p x.0 in
    let l₁ : List ℕ = set l₀ (p + 1) x.1 in
    let n₀ : length l₀ ≡ length ws = length-set ws p x.0 in
    let n₁ : length l₁ ≡ length l₀ = length-set l₀ (p + 1) x.1 in
    let c₀ : get_or (written ws c x) p 0 ≡ x.0 =
    get_or-set_other l₁ (p + 2) p _ 0 (λ e. omega arith) ∙ get_or-set_other l₀ (p + 1) p _ 0 (λ e. omega arith) ∙ get_or-set_same ws p x.0 0 (omega arith) in
    let c₁ : get_or (written ws c x) (p + 1) 0 ≡ x.1 =
    get_or-set_other l₁ (p + 2) (p + 1) _ 0 (λ e. omega arith) ∙ get_or-set_same l₀ (p + 1) x.1 0 (omega arith) in
    let c₂ : get_or (written ws c x) (p + 2) 0 ≡ x.2 = get_or-set_same l₁ (p + 2) x.2 0 (omega arith) in
    record {
      cell_now = λ i. (c₀ i, c₁ i, c₂ i);
      length_now = length-set l₁ (p + 2) x.2 ∙ n₁ ∙ n₀;
      other = λ i o.
          get_or-set_other l₁ (p + 2) i _ 0 (λ e. omega arith) ∙ get_or-set_other l₀ (p + 1) i _ 0 (λ e. omega arith) ∙ get_or-set_other ws p i _ 0 (λ e. omega arith);
    }

-- another cell stays
pub cell_stays : (ws ws' : List ℕ) (d : ℕ) → ((j : ℕ) → j < 3 → get_or ws' (1090 + 4 * d + j) 0 ≡ get_or ws (1090 + 4 * d + j) 0) → cell_at ws' d ≡ cell_at ws d
cell_stays ws ws' d h =
    let e : 1090 + 4 * d + 0 ≡ 1090 + 4 * d = omega arith in
    let q₀ = subst (λ (k : ℕ). get_or ws' k 0 ≡ get_or ws k 0) e (h 0 (omega arith)) in
    let q₁ = h 1 (omega arith) in
    let q₂ = h 2 (omega arith) in
    λ i. (q₀ i, q₁ i, q₂ i)

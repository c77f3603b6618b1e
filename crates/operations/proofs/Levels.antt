-- The levels and sides of cells, read from the words.
use Rattle.std.proofs.Common.{◌≡◌, ℕ, zero, suc, ◌+◌, ◌<◌, ◌≤◌, eqb, ◌≢◌, List, length, sym, refl, ap, ◌∙◌, ⊎_elim, arith}
use Rattle.std.proofs.lemmas.Bool.{eq-eqb, ne_eqb, cases_eq, cond-true, cond-false}
use Rattle.cells.specs.Cells.{Cell, at, level, Ordered, Reduced, low_at, high_at}
use Rattle.cells.specs.Words.{switches, count, cell_at, cells_of, WellFormed}
use Rattle.cells.proofs.Mean.{level_cell}
use Rattle.cells.proofs.Held.{level_suc, level_within}
use Rattle.cells.proofs.Chained.{length_cells, at_cells}

pub level_end : (cs : List Cell) (c : ℕ) → c < 2 → 0 ≡ level cs c
unfolding level
level_end cs zero h = refl
level_end cs (suc zero) h = refl
level_end cs (suc (suc m)) h = absurd (omega arith)

pub level_read : (ws : List ℕ) (c : ℕ) (y : Cell) → y ≡ cell_at ws c → 2 ≤ c → c < count ws → y.0 + 1 ≡ level (cells_of ws) c
level_read ws c y e h hc =
    omega (arith, level_cell (cells_of ws) c h, ap (λ (x : Cell). x.0) (at_cells ws c hc ∙ sym e))

pub level_most : (ws : List ℕ) → WellFormed ws → (c : ℕ) → c < count ws → level (cells_of ws) c ≤ switches ws
level_most ws s c hc = level_within (switches ws) (cells_of ws) s.reduced c (omega (arith, length_cells ws))

pub low_there : (ws : List ℕ) (s c : ℕ) (y : Cell) → y ≡ cell_at ws c → level (cells_of ws) c ≡ suc s → c < count ws → y.1 ≡ low_at (cells_of ws) s c
unfolding low_at
low_there ws s c y r e hc = sym (cond-true _ _ _ (eq-eqb _ _ e) ∙ ap (λ (x : Cell). x.1) (at_cells ws c hc ∙ sym r))

pub low_past : (ws : List ℕ) (s c : ℕ) → level (cells_of ws) c ≢ suc s → c ≡ low_at (cells_of ws) s c
unfolding low_at
low_past ws s c e = sym (cond-false _ _ _ (ne_eqb _ _ e))

pub high_there : (ws : List ℕ) (s c : ℕ) (y : Cell) → y ≡ cell_at ws c → level (cells_of ws) c ≡ suc s → c < count ws → y.2 ≡ high_at (cells_of ws) s c
unfolding high_at
high_there ws s c y r e hc = sym (cond-true _ _ _ (eq-eqb _ _ e) ∙ ap (λ (x : Cell). x.2) (at_cells ws c hc ∙ sym r))

pub high_past : (ws : List ℕ) (s c : ℕ) → level (cells_of ws) c ≢ suc s → c ≡ high_at (cells_of ws) s c
unfolding high_at
high_past ws s c e = sym (cond-false _ _ _ (ne_eqb _ _ e))

-- a side is a lower number, and lower where the cell asks the switch
pub sides_fall : (n : ℕ) (cs : List Cell) → Reduced n cs → (s c : ℕ) → c < length cs
    → (low_at cs s c ≤ c) × (high_at cs s c ≤ c) × (level cs c ≡ suc s → (low_at cs s c < c) × (high_at cs s c < c))
unfolding low_at high_at
sides_fall n cs w s c hc =
    ⊎_elim
    (λ (e : level cs c ≡ suc s).
    let q = level_suc cs c s e in
    let o : Ordered n cs c = w.ordered c q.0 hc in
    let l = cond-true (eqb (level cs c) (suc s)) (at cs c).1 c (eq-eqb _ _ e) in
    let h = cond-true (eqb (level cs c) (suc s)) (at cs c).2 c (eq-eqb _ _ e) in
    (omega (arith, l, o.low), omega (arith, h, o.high), λ f. (omega (arith, l, o.low), omega (arith, h, o.high))))
    (λ (e : level cs c ≢ suc s).
    let l = cond-false (eqb (level cs c) (suc s)) (at cs c).1 c (ne_eqb _ _ e) in
    let h = cond-false (eqb (level cs c) (suc s)) (at cs c).2 c (ne_eqb _ _ e) in
    (omega (arith, l), omega (arith, h), λ f. absurd (e f)))
    (cases_eq (level cs c) (suc s))

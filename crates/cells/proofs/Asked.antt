-- Reading the set of a cell from the words, and the search for its lowest configuration.
use Rattle.std.proofs.Common.{◌≡◌, ℕ, zero, suc, ◌+◌, ◌-◌, ◌*◌, ◌/◌, ◌%◌, ◌^◌, ◌<◌, ◌≤◌, true, false, cond, eqb, ◌≢◌, List, length, sym, refl, ap, ◌∙◌, subst, ⊎_elim, pow-suc, arith, pow_mono}
use Rattle.std.proofs.lemmas.Bool.{eq-eqb, ne_eqb, cases_lt}
use Rattle.cells.specs.Cells.{Cell, on, mean, walk, level, Ordered}
use Rattle.cells.specs.Words.{switches, count, cell_at, cells_of, WellFormed, Descending}
use Rattle.cells.proofs.Mean.{mean_cell, mean_low, mean_high, level_cell}
use Rattle.cells.proofs.Held.{level_within}
use Rattle.cells.proofs.Steps.{mean_none, mean_all}
use Rattle.cells.proofs.Chained.{length_cells, at_cells}

pub on_is : (s k : ℕ) → k / 2 ^ s % 2 ≡ 1 → on s k ≡ true
unfolding on
on_is s k e = eq-eqb _ _ e

pub on_not : (s k : ℕ) → k / 2 ^ s % 2 ≢ 1 → on s k ≡ false
unfolding on
on_not s k e = ne_eqb _ _ e

-- what is known of a cell, at the words
pub record Seen (ws : List ℕ) (c : ℕ) (x : Cell) : Type 0 where
  pub switch : x.0 < 32
  pub low_there : x.1 < count ws
  pub high_there : x.2 < count ws
  pub low_less : x.1 < c
  pub high_less : x.2 < c
  pub differ : x.1 ≢ x.2
  pub level_is : level (cells_of ws) c ≡ suc x.0
  pub low_level : level (cells_of ws) x.1 ≤ x.0
  pub high_level : level (cells_of ws) x.2 ≤ x.0
  pub means : (k : ℕ) → mean (cells_of ws) c k ≡ cond (on x.0 k) (mean (cells_of ws) x.2 k) (mean (cells_of ws) x.1 k)
  pub means_low : (k : ℕ) → k < 2 ^ x.0 → mean (cells_of ws) c k ≡ mean (cells_of ws) x.1 k
  pub means_high : (k : ℕ) → k < 2 ^ x.0 → mean (cells_of ws) c (2 ^ x.0 + k) ≡ mean (cells_of ws) x.2 k

pub seen : (ws : List ℕ) → WellFormed ws → (c : ℕ) (y : Cell) → y ≡ cell_at ws c → 2 ≤ c → c < count ws → Seen ws c y
seen ws s c y e h hc =
    let n : ℕ = switches ws in
    let cs : List Cell = cells_of ws in
    let len = length_cells ws in
    let hl : c < length cs = omega arith in
    let o : Ordered n cs c = s.reduced.ordered c h hl in
    subst (Seen ws c) (at_cells ws c hc ∙ sym e)
    (record {
      switch = omega (arith, o.switch, s.reduced.admitted);
      low_there = omega (arith, o.low);
      high_there = omega (arith, o.high);
      low_less = o.low;
      high_less = o.high;
      differ = o.differ;
      level_is = level_cell cs c h;
      low_level = o.low_level;
      high_level = o.high_level;
      means = λ k. mean_cell n cs s.reduced c k h hl;
      means_low = λ k l. mean_low n cs s.reduced c k h hl l;
      means_high = λ k l. mean_high n cs s.reduced c k h hl l;
    })

pub ended : (cs : List Cell) (c k : ℕ) → c < 2 → eqb c 1 ≡ mean cs c k
unfolding walk
ended cs zero k h = refl
ended cs (suc zero) k h = refl
ended cs (suc (suc m)) k h = absurd (omega arith)

pub level_none : (cs : List Cell) (c : ℕ) → c < 2 → level cs c ≡ 0
unfolding level
level_none cs zero h = refl
level_none cs (suc zero) h = refl
level_none cs (suc (suc m)) h = absurd (omega arith)

pub seek_from : (ws : List ℕ) → WellFormed ws → (c : ℕ) → c ≢ 0 → c < count ws → Descending ws c c 0
seek_from ws s c z hc =
    let p : 2 ^ level (cells_of ws) c ≤ 2 ^ switches ws =
    pow_mono (level_within (switches ws) (cells_of ws) s.reduced c (omega (arith, length_cells ws))) in
    record {
      there = hc;
      some = z;
      fits = omega arith;
      below = λ j h. absurd (omega arith);
      from = λ j h. let e : 0 + j ≡ j = omega arith in ap (mean (cells_of ws) c) e;
    }

pub seek_low : (ws : List ℕ) → WellFormed ws → (c a k : ℕ) (y : Cell) → y ≡ cell_at ws a → Descending ws c a k → 2 ≤ a → y.1 ≢ 0 → Descending ws c y.1 k
seek_low ws s c a k y e x two z =
    let v = seen ws s a y e two x.there in
    let i : ℕ = y.0 in
    let p : 2 ^ level (cells_of ws) y.1 ≤ 2 ^ i = pow_mono v.low_level in
    let q : 2 ^ level (cells_of ws) a ≡ 2 ^ i * 2 = ap (λ (y : ℕ). 2 ^ y) v.level_is ∙ pow-suc 2 i in
    record {
      there = v.low_there;
      some = z;
      fits = omega (arith, x.fits);
      below = x.below;
      from = λ j h. x.from j (omega arith) ∙ v.means_low j (omega arith);
    }

pub seek_high : (ws : List ℕ) → WellFormed ws → (c a k : ℕ) (y : Cell) → y ≡ cell_at ws a → Descending ws c a k → 2 ≤ a → y.1 ≡ 0
    → Descending ws c y.2 (k + 2 ^ y.0)
seek_high ws s c a k y e x two z =
    let v = seen ws s a y e two x.there in
    let i : ℕ = y.0 in
    let p : 2 ^ level (cells_of ws) y.2 ≤ 2 ^ i = pow_mono v.high_level in
    let q : 2 ^ level (cells_of ws) a ≡ 2 ^ i * 2 = ap (λ (y : ℕ). 2 ^ y) v.level_is ∙ pow-suc 2 i in
    record {
      there = v.high_there;
      some = λ e. v.differ (z ∙ sym e);
      fits = omega (arith, x.fits);
      below = λ j h.
          ⊎_elim (λ (l : j < k). x.below j l)
          (λ (l : k ≤ j).
          let m : ℕ = j - k in
          let e : k + m ≡ j = omega arith in
          subst (λ (y : ℕ). mean (cells_of ws) c y ≡ false) e
          (x.from m (omega arith) ∙ v.means_low m (omega arith) ∙ ap (λ (y : ℕ). mean (cells_of ws) y m) z ∙ mean_none (cells_of ws) m))
          (cases_lt j k);
      from = λ j h.
          (let e : k + 2 ^ i + j ≡ k + (2 ^ i + j) = omega arith in
          ap (mean (cells_of ws) c) e ∙ x.from (2 ^ i + j) (omega arith) ∙ v.means_high j (omega arith));
    }

pub seek_end : (ws : List ℕ) (c a k : ℕ) → Descending ws c a k → a < 2
    → (k < 2 ^ switches ws) × (mean (cells_of ws) c k ≡ true) × ((j : ℕ) → j < k → mean (cells_of ws) c j ≡ false)
seek_end ws c a k x h =
    let z = x.some in
    let one : a ≡ 1 = omega arith in
    let l : 2 ^ level (cells_of ws) a ≡ 1 = ap (λ (y : ℕ). 2 ^ y) (level_none (cells_of ws) a h) in
    let e : k + 0 ≡ k = omega arith in (
      omega (arith, x.fits),
      subst (λ (y : ℕ). mean (cells_of ws) c y ≡ true) e
          (x.from 0 (omega arith) ∙ ap (λ (y : ℕ). mean (cells_of ws) y 0) one ∙ mean_all (cells_of ws) 0),
      x.below,
    )

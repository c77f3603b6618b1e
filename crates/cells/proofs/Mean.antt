-- The set of a cell, by its two sides.
use Rattle.std.proofs.Common.{◌≡◌, ℕ, zero, suc, ◌+◌, ◌^◌, ◌<◌, ◌≤◌, cond, List, length, refl, arith}
use Rattle.cells.specs.Cells.{Cell, at, on, walk, mean, level, Ordered, Reduced}
use Rattle.cells.proofs.Bit.{on_low, on_high, on_below}

-- any fuel that is enough gives the same
pub walk_enough : (n : ℕ) (cs : List Cell) → Reduced n cs → (f g c k : ℕ) → c ≤ f → c ≤ g → c < length cs → walk cs f c k ≡ walk cs g c k
unfolding walk
walk_enough n cs w zero zero c k hf hg hc = refl
walk_enough n cs w zero (suc g) zero k hf hg hc = refl
walk_enough n cs w zero (suc g) (suc c) k hf hg hc = absurd (omega arith)
walk_enough n cs w (suc f) zero zero k hf hg hc = refl
walk_enough n cs w (suc f) zero (suc c) k hf hg hc = absurd (omega arith)
walk_enough n cs w (suc f) (suc g) zero k hf hg hc = refl
walk_enough n cs w (suc f) (suc g) (suc zero) k hf hg hc = refl
walk_enough n cs w (suc f) (suc g) (suc (suc m)) k hf hg hc =
    let c : ℕ = suc (suc m) in
    let o : Ordered n cs c = w.ordered c (omega arith) hc in
    let h = walk_enough n cs w f g (at cs c).2 k (omega (arith, o.high)) (omega (arith, o.high)) (omega (arith, o.high)) in
    let l = walk_enough n cs w f g (at cs c).1 k (omega (arith, o.low)) (omega (arith, o.low)) (omega (arith, o.low)) in
    cc

-- a set does not depend on a bit at or above the cell's level
pub walk_above : (n : ℕ) (cs : List Cell) → Reduced n cs → (f c i k : ℕ) → c < length cs → level cs c ≤ i → walk cs f c (2 ^ i + k) ≡ walk cs f c k
unfolding walk level
walk_above n cs w zero c i k hc hi = refl
walk_above n cs w (suc f) zero i k hc hi = refl
walk_above n cs w (suc f) (suc zero) i k hc hi = refl
walk_above n cs w (suc f) (suc (suc m)) i k hc hi =
    let c : ℕ = suc (suc m) in
    let o : Ordered n cs c = w.ordered c (omega arith) hc in
    let b = on_below (at cs c).0 i k hi in
    let h = walk_above n cs w f (at cs c).2 i k (omega (arith, o.high)) (omega (arith, o.high_level)) in
    let l = walk_above n cs w f (at cs c).1 i k (omega (arith, o.low)) (omega (arith, o.low_level)) in
    cc

-- the set of a cell, by its sides
pub mean_cell : (n : ℕ) (cs : List Cell) → Reduced n cs → (c k : ℕ) → 2 ≤ c → c < length cs
    → mean cs c k ≡ cond (on (at cs c).0 k) (mean cs (at cs c).2 k) (mean cs (at cs c).1 k)
unfolding walk
mean_cell n cs w zero k h hc = absurd (omega arith)
mean_cell n cs w (suc zero) k h hc = absurd (omega arith)
mean_cell n cs w (suc (suc m)) k h hc =
    let c : ℕ = suc (suc m) in
    let o : Ordered n cs c = w.ordered c h hc in
    let hi = walk_enough n cs w (suc m) (at cs c).2 (at cs c).2 k (omega (arith, o.high)) (omega arith) (omega (arith, o.high)) in
    let lo = walk_enough n cs w (suc m) (at cs c).1 (at cs c).1 k (omega (arith, o.low)) (omega arith) (omega (arith, o.low)) in
    cc

pub level_cell : (cs : List Cell) (c : ℕ) → 2 ≤ c → level cs c ≡ suc (at cs c).0
unfolding level
level_cell cs zero h = absurd (omega arith)
level_cell cs (suc zero) h = absurd (omega arith)
level_cell cs (suc (suc m)) h = refl

-- the sides of a cell at switch i, as sets of configurations below 2 ^ i
pub mean_low : (n : ℕ) (cs : List Cell) → Reduced n cs → (c k : ℕ) → 2 ≤ c → c < length cs → k < 2 ^ (at cs c).0
    → mean cs c k ≡ mean cs (at cs c).1 k
mean_low n cs w c k h hc hk = let e = mean_cell n cs w c k h hc in let b = on_low (at cs c).0 k hk in cc

pub mean_high : (n : ℕ) (cs : List Cell) → Reduced n cs → (c k : ℕ) → 2 ≤ c → c < length cs → k < 2 ^ (at cs c).0
    → mean cs c (2 ^ (at cs c).0 + k) ≡ mean cs (at cs c).2 k
mean_high n cs w c k h hc hk =
    let i : ℕ = (at cs c).0 in
    let o : Ordered n cs c = w.ordered c h hc in
    let e = mean_cell n cs w c (2 ^ i + k) h hc in
    let b = on_high i k hk in
    let a = walk_above n cs w (at cs c).2 (at cs c).2 i k (omega (arith, o.high)) o.high_level in
    cc

-- Bits of configurations.
use Rattle.std.proofs.Common.{◌≡◌, ℕ, suc, ◌+◌, ◌-◌, ◌*◌, ◌/◌, ◌%◌, ◌^◌, ◌<◌, true, false, eqb, ap, ◌∙◌, pow-suc, arith}
use native.Mathlib.Nat.{mul-add-div}
use Rattle.std.proofs.lemmas.Nat.{pow_pos, pow-add, div-mul-add, div_below}
use Rattle.std.proofs.lemmas.Bool.{eq-eqb, ne_eqb}
use Rattle.cells.specs.Cells.{on}

pub on_low : (i k : ℕ) → k < 2 ^ i → on i k ≡ false
unfolding on
on_low i k h =
    let q : k / 2 ^ i < 1 = div_below k (2 ^ i) 1 (pow_pos i) (omega arith) in
    ne_eqb (k / 2 ^ i % 2) 1 (λ e. omega arith)

pub on_high : (i k : ℕ) → k < 2 ^ i → on i (2 ^ i + k) ≡ true
unfolding on
on_high i k h =
    let e : (1 * 2 ^ i + k) / 2 ^ i ≡ 1 = div-mul-add 1 (2 ^ i) k h in
    let s : 1 * 2 ^ i + k ≡ 2 ^ i + k = omega arith in
    let q : (2 ^ i + k) / 2 ^ i ≡ 1 = rw s at e in
    eq-eqb ((2 ^ i + k) / 2 ^ i % 2) 1 (omega arith)

pub on_below : (j i k : ℕ) → j < i → on j (2 ^ i + k) ≡ on j k
unfolding on
on_below j i k h =
    let d : ℕ = i - suc j in
    let e : i ≡ j + suc d = omega arith in
    let p : 2 ^ i ≡ 2 ^ j * 2 ^ suc d = ap (λ (x : ℕ). 2 ^ x) e ∙ pow-add 2 j (suc d) in
    let q : (2 ^ j * 2 ^ suc d + k) / 2 ^ j ≡ 2 ^ suc d + k / 2 ^ j = mul-add-div (pow_pos j) (2 ^ suc d) k in
    let q' : (2 ^ i + k) / 2 ^ j ≡ 2 ^ suc d + k / 2 ^ j = ap (λ (x : ℕ). (x + k) / 2 ^ j) p ∙ q in
    let s : 2 ^ suc d ≡ 2 ^ d * 2 = pow-suc 2 d in
    let r : (2 ^ i + k) / 2 ^ j % 2 ≡ k / 2 ^ j % 2 = omega arith in
    ap (λ (x : ℕ). eqb x 1) r

-- The bits of a number.
use Rattle.std.proofs.Common.{◌≡◌, ℕ, zero, suc, ◌+◌, ◌-◌, ◌*◌, ◌/◌, ◌%◌, ◌^◌, ◌<◌, ◌≤◌, min, max, Bool, true, false, not, ◌&&◌, ◌||◌, eqb, ◌⊎◌, List, [], ◌∷◌, get_or, sym, refl, ap, ◌∙◌, ⊎_elim, div-one, one-add, arith, pow_pos, pow_mono, shr-shr}
use native.Mathlib.Nat.{zero-div, sub-zero, pow-succ', div-eq_of_lt, mul-add-mod_self_right}
use lib.Pow.{ones_split, ones_lt, high}
use lib.Bits.{bit_and, bit_or, and_shr, and_step, or_shr, or_step}
use lib.Count.{count_trailing_zeros, under}
use Rattle.std.proofs.lemmas.Bool.{cases_eq, cases_lt, and_parts, false≢true}
use Rattle.std.proofs.lemmas.Bool.Decides.{nat_tests}
use Rattle.stores.specs.Sets.{on}

-- the lowest bit, and those above it
on_first : (x : ℕ) → on 0 x ≡ eqb (x % 2) 1
on_first x = ap (λ (z : ℕ). eqb (z % 2) 1) (div-one x)

on_suc : (i x : ℕ) → on (suc i) x ≡ on i (x / 2)
on_suc i x = ap (λ (z : ℕ). eqb (z % 2) 1) (sym (shr-shr x 1 i ∙ ap (λ (k : ℕ). x / 2 ^ k) (one-add i)))

-- the bits of an intersection, a union and a complement
min_one : (p q : ℕ) → p < 2 → q < 2 → eqb (min p q % 2) 1 ≡ (eqb p 1 && eqb q 1)
min_one p q hp hq = grind (arith, nat_tests)

max_one : (p q : ℕ) → p < 2 → q < 2 → eqb (max p q % 2) 1 ≡ (eqb p 1 || eqb q 1)
max_one p q hp hq = grind (arith, nat_tests)

pub on_and : (i x y : ℕ) → on i (bit_and x y) ≡ (on i x && on i y)
on_and i x y =
    let u = x / 2 ^ i in
    let v = y / 2 ^ i in
    ap (λ (z : ℕ). eqb (z % 2) 1) (and_shr x y i ∙ and_step u v)
    ∙ ap (λ (z : ℕ). eqb z 1) (mul-add-mod_self_right (bit_and (u / 2) (v / 2)) 2 (min (u % 2) (v % 2)))
    ∙ min_one (u % 2) (v % 2) (omega arith) (omega arith)

pub on_or : (i x y : ℕ) → on i (bit_or x y) ≡ (on i x || on i y)
on_or i x y =
    let u = x / 2 ^ i in
    let v = y / 2 ^ i in
    ap (λ (z : ℕ). eqb (z % 2) 1) (or_shr x y i ∙ or_step u v)
    ∙ ap (λ (z : ℕ). eqb z 1) (mul-add-mod_self_right (bit_or (u / 2) (v / 2)) 2 (max (u % 2) (v % 2)))
    ∙ max_one (u % 2) (v % 2) (omega arith) (omega arith)

flip : (p : ℕ) → p < 2 → eqb (1 - p) 1 ≡ not (eqb p 1)
flip zero h = refl
flip (suc zero) h = refl
flip (suc (suc p)) h = absurd (omega arith)

pub on_not : (k i y : ℕ) → i < k → y < 2 ^ k → on i (2 ^ k - 1 - y) ≡ not (on i y)
on_not zero i y h g = absurd (omega arith)
on_not (suc k) zero y h g =
    let e : (2 ^ suc k - 1 - y) % 2 ≡ 1 - y % 2 = omega (arith, pow-succ' 2 k, g) in
    on_first (2 ^ suc k - 1 - y) ∙ ap (λ (z : ℕ). eqb z 1) e ∙ flip (y % 2) (omega arith) ∙ ap not (sym (on_first y))
on_not (suc k) (suc i) y h g =
    let e : (2 ^ suc k - 1 - y) / 2 ≡ 2 ^ k - 1 - y / 2 = omega (arith, pow-succ' 2 k, g) in
    on_suc i (2 ^ suc k - 1 - y) ∙ ap (on i) e ∙ on_not k i (y / 2) (omega (arith, h)) (omega (arith, pow-succ' 2 k, g)) ∙ ap not (sym (on_suc i y))

pub on_zero : (i : ℕ) → on i 0 ≡ false
on_zero i = ap (λ (z : ℕ). eqb (z % 2) 1) (zero-div (2 ^ i))

-- the lowest m bits
pub on_ones : (m i : ℕ) → i < m → on i (2 ^ m - 1) ≡ true
on_ones m i h = ap (on i) (sym (sub-zero (2 ^ m - 1))) ∙ on_not m i 0 h (pow_pos m) ∙ ap not (on_zero i)

pub ones_shifted : (m : ℕ) → m ≤ 64 → 18446744073709551615 / 2 ^ (64 - m) ≡ 2 ^ m - 1
ones_shifted m h =
    let k = 64 - m in
    let e : m + k ≡ 64 = omega (arith, h) in
    ap (λ (z : ℕ). z / 2 ^ k) (ap (λ (z : ℕ). 2 ^ z - 1) (sym e) ∙ ones_split m k) ∙ high (2 ^ m - 1) k (ones_lt k)

-- a bit that is on is worth no more than the number
pub on_within : (m i x : ℕ) → x < 2 ^ m → on i x ≡ true → i < m
on_within m i x h e = ⊎_elim
    (λ (lt : i < m). lt)
    (λ (le : m ≤ i).
    let small : x < 2 ^ i = omega (arith, pow_mono {i = m} {j = i} le) in
    absurd (false≢true (sym (ap (λ (z : ℕ). eqb (z % 2) 1) (div-eq_of_lt small)) ∙ e)))
    (cases_lt i m)

-- the zeros below the lowest bit
under_zero : (d t : ℕ) → d ≡ 0 → under d t ≡ suc t
under_zero d t e = ap (λ (z : ℕ). under z t) e

under_one : (d t : ℕ) → d ≡ 1 → under d t ≡ 0
under_one d t e = ap (λ (z : ℕ). under z t) e

parity : (x : ℕ) → (x % 2 ≡ 0) ⊎ (x % 2 ≡ 1)
parity x = grind arith

pub trailing_below : (k x j : ℕ) → j < count_trailing_zeros k x → on j x ≡ false
unfolding count_trailing_zeros
trailing_below zero x j h = absurd (omega arith)
trailing_below (suc k) x zero h = ⊎_elim
    (λ (e : x % 2 ≡ 0). on_first x ∙ ap (λ (z : ℕ). eqb z 1) e)
    (λ (e : x % 2 ≡ 1). absurd (omega (arith, h, under_one (x % 2) (count_trailing_zeros k (x / 2)) e)))
    (parity x)
trailing_below (suc k) x (suc j) h = ⊎_elim
    (λ (e : x % 2 ≡ 0). on_suc j x ∙ trailing_below k (x / 2) j (omega (arith, h, under_zero (x % 2) (count_trailing_zeros k (x / 2)) e)))
    (λ (e : x % 2 ≡ 1). absurd (omega (arith, h, under_one (x % 2) (count_trailing_zeros k (x / 2)) e)))
    (parity x)

pub trailing_on : (k x : ℕ) → count_trailing_zeros k x < k → on (count_trailing_zeros k x) x ≡ true
unfolding count_trailing_zeros
trailing_on zero x h = absurd (omega arith)
trailing_on (suc k) x h = ⊎_elim
    (λ (e : x % 2 ≡ 0).
    let u = under_zero (x % 2) (count_trailing_zeros k (x / 2)) e in
    ap (λ (z : ℕ). on z x) u ∙ on_suc (count_trailing_zeros k (x / 2)) x ∙ trailing_on k (x / 2) (omega (arith, h, u)))
    (λ (e : x % 2 ≡ 1). ap (λ (z : ℕ). on z x) (under_one (x % 2) (count_trailing_zeros k (x / 2)) e) ∙ on_first x ∙ ap (λ (z : ℕ). eqb z 1) e)
    (parity x)

pub trailing_within : (k x : ℕ) → 0 < x → x < 2 ^ k → count_trailing_zeros k x < k
unfolding count_trailing_zeros
trailing_within zero x pos h = absurd (omega arith)
trailing_within (suc k) x pos h = ⊎_elim
    (λ (e : x % 2 ≡ 0).
    omega (arith, under_zero (x % 2) (count_trailing_zeros k (x / 2)) e, trailing_within k (x / 2) (omega (arith, e, pos)) (omega (arith, pow-succ' 2 k, h))))
    (λ (e : x % 2 ≡ 1). omega (arith, under_one (x % 2) (count_trailing_zeros k (x / 2)) e))
    (parity x)

-- bit p of each word of the configurations that have switch i on, for a switch that each word tells apart in the same way
abbrev pub patterns : List ℕ
patterns =
    0xAAAA_AAAA_AAAA_AAAA
    ∷ 0xCCCC_CCCC_CCCC_CCCC
    ∷ 0xF0F0_F0F0_F0F0_F0F0
    ∷ 0xFF00_FF00_FF00_FF00
    ∷ 0xFFFF_0000_FFFF_0000
    ∷ 0xFFFF_FFFF_0000_0000
    ∷ []

same : Bool → Bool → Bool
same true b = b
same false b = not b

same_true : (a b : Bool) → same a b ≡ true → a ≡ b
unfolding same
same_true true b h = sym h
same_true false true h = h
same_true false false h = refl

-- the rule at each bit below m, as one test
agree : ℕ → ℕ → ℕ → Bool
unfolding same
agree i r zero = true
agree i r (suc m) = same (on m r) (on i m) && agree i r m

agree_true : (i r m : ℕ) → agree i r m ≡ true → (p : ℕ) → p < m → on p r ≡ on i p
unfolding agree same
agree_true i r zero e p h = absurd (omega arith)
agree_true i r (suc m) e p h = ⊎_elim
    (λ (q : p ≡ m). ap (λ (j : ℕ). on j r) q ∙ same_true (on m r) (on i m) (and_parts _ _ e).0 ∙ ap (on i) (sym q))
    (λ (ne : p ≡ m → ⊥). agree_true i r m (and_parts _ _ e).1 p (omega (arith, ne, h)))
    (cases_eq p m)

-- the configuration p of word t
pub on_pattern : (i t p : ℕ) → i < 6 → p < 64 → on p (get_or patterns i 0) ≡ on i (t * 64 + p)
unfolding agree same
on_pattern zero t p h g = agree_true 0 0xAAAA_AAAA_AAAA_AAAA 64 refl p g ∙ ap (λ (z : ℕ). eqb z 1) (omega arith)
on_pattern (suc zero) t p h g = agree_true 1 0xCCCC_CCCC_CCCC_CCCC 64 refl p g ∙ ap (λ (z : ℕ). eqb z 1) (omega arith)
on_pattern (suc (suc zero)) t p h g = agree_true 2 0xF0F0_F0F0_F0F0_F0F0 64 refl p g ∙ ap (λ (z : ℕ). eqb z 1) (omega arith)
on_pattern (suc (suc (suc zero))) t p h g = agree_true 3 0xFF00_FF00_FF00_FF00 64 refl p g ∙ ap (λ (z : ℕ). eqb z 1) (omega arith)
on_pattern (suc (suc (suc (suc zero)))) t p h g = agree_true 4 0xFFFF_0000_FFFF_0000 64 refl p g ∙ ap (λ (z : ℕ). eqb z 1) (omega arith)
on_pattern (suc (suc (suc (suc (suc zero))))) t p h g = agree_true 5 0xFFFF_FFFF_0000_0000 64 refl p g ∙ ap (λ (z : ℕ). eqb z 1) (omega arith)
on_pattern (suc (suc (suc (suc (suc (suc i)))))) t p h g = absurd (omega arith)

-- a higher switch is alike for all configurations of a word
pub on_high : (i t p : ℕ) → 6 ≤ i → p < 64 → on i (t * 64 + p) ≡ on (i - 6) t
on_high i t p h g =
    let e : 6 + (i - 6) ≡ i = omega (arith, h) in
    let d : (t * 64 + p) / 64 ≡ t = omega (arith, g) in
    ap (λ (z : ℕ). eqb (z % 2) 1) (ap (λ (j : ℕ). (t * 64 + p) / 2 ^ j) (sym e) ∙ sym (shr-shr (t * 64 + p) 6 (i - 6)) ∙ ap (λ (z : ℕ). z / 2 ^ (i - 6)) d)

-- Slots, and the sets that they hold.
use Rattle.std.proofs.Common.{◌≡◌, ℕ, ◌+◌, ◌-◌, ◌/◌, ◌%◌, ◌^◌, ◌<◌, ◌≤◌, Bool, true, false, ◌&&◌, ltb, List, get_or, refl, ap, ◌∙◌, le-div_iff_mul-le, arith, pow_pos}
use mathlib.Core.Path.{fun_ext}
use Rattle.std.proofs.lemmas.Bool.{ltb-true}
use Rattle.stores.specs.Sets.{empty, everything, on}
use Rattle.bitmaps.specs.Layout.{width, used, full, slots, start}
use Rattle.bitmaps.specs.Meaning.{slot}
use Rattle.bitmaps.specs.Kept.{word_within}
use Rattle.bitmaps.proofs.Bits.{on_zero, on_ones}

-- where words lie

pub last_within : (len n : ℕ) → 2 ≤ len → start n (slots len n) ≤ len
last_within len n h = omega (arith, h, (le-div_iff_mul-le {k = width n} {x = slots len n} {y = len - 2} (pow_pos (n - 6))).0 (omega arith))

pub bit_used : (n k : ℕ) → k < 2 ^ n → k % 64 < used n
bit_used n k h = omega (arith, h)

-- tests behind a guard
guarded_true : (b x : Bool) → (b ≡ true → x ≡ true) → (b && x) ≡ b
guarded_true true x h = h refl
guarded_true false x h = refl

guarded_false : (b x : Bool) → (b ≡ true → x ≡ false) → (b && x) ≡ false
guarded_false true x h = h refl
guarded_false false x h = refl

pub slot_none : (n : ℕ) (ws : List ℕ) (j : ℕ) → ((t : ℕ) → t < width n → get_or ws (start n j + t) 0 ≡ 0) → slot n ws j ≡ empty
slot_none n ws j zeros =
    fun_ext (λ k. guarded_false (ltb k (2 ^ n)) _ (λ h. ap (on (k % 64)) (zeros (k / 64) (word_within n k (ltb-true k (2 ^ n) h))) ∙ on_zero (k % 64)))

pub slot_top : (n : ℕ) (ws : List ℕ) (j : ℕ) → ((t : ℕ) → t < width n → get_or ws (start n j + t) 0 ≡ full n) → slot n ws j ≡ everything n
slot_top n ws j fulls =
    fun_ext (λ k. guarded_true (ltb k (2 ^ n)) _ (λ h.
    let lt = ltb-true k (2 ^ n) h in
    ap (on (k % 64)) (fulls (k / 64) (word_within n k lt)) ∙ on_ones (used n) (k % 64) (bit_used n k lt)))

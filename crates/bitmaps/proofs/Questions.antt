-- Reading slots.
use Rattle.std.proofs.Common.{◌≡◌, ℕ, ◌+◌, ◌-◌, ◌*◌, ◌/◌, ◌%◌, ◌^◌, ◌<◌, ◌≤◌, Bool, true, false, not, ◌&&◌, eqb, ltb, List, length, get_or, take, drop, Some, None, Option, sym, ap, ◌∙◌, subst, ⊎_elim, arith, length-take-le, length-drop, get_or-take, pow_mono, pow-add}
use lib.Count.{count_trailing_zeros}
use Rattle.std.specs.List.{position, position_or_len}
use Rattle.std.proofs.lemmas.Grind.{common_steps}
use Rattle.std.proofs.lemmas.List.{get_or-drop}
use Rattle.std.proofs.lemmas.List.Quantifiers.{position-Some}
use Rattle.std.proofs.lemmas.List.Sums.{fails_before_first}
use Rattle.std.proofs.lemmas.Nat.{one_shl}
use Rattle.std.proofs.lemmas.Bool.{cases_lt, lt-ltb, and_from, and_right}
use Rattle.stores.specs.Sets.{Set, empty, on, Empty, Lowest, LowestIf}
use Rattle.stores.specs.Model.{set_at}
use Rattle.bitmaps.specs.Layout.{width, used, slots, start}
use Rattle.bitmaps.specs.Meaning.{slot, means, Valid, Held}
use Rattle.bitmaps.specs.Cutting.{starts, set_means}
use Rattle.bitmaps.proofs.Bits.{on_zero, on_within, trailing_below, trailing_on, trailing_within}
use Rattle.bitmaps.proofs.Slots.{last_within, slot_none, slot_top}

pub valid_held : (ws : List ℕ) → Valid ws → Held (get_or ws 0 0) ws
valid_held ws v =
    let n = get_or ws 0 0 in
    record {
      floor = v.floor;
      within = omega (arith, last_within (length ws) n v.header, starts n (get_or ws 1 0) (slots (length ws) n) v.room);
      unused = v.unused;
    }

-- the two sets that are always held
pub none_set : (ws : List ℕ) → Valid ws → set_at (means ws) 0 ≡ empty
none_set ws v = set_means ws 0 (omega (arith, v.floor)) ∙ slot_none (get_or ws 0 0) ws 0 v.none

pub top_set : (ws : List ℕ) → Valid ws → set_at (means ws) 1 ≡ (means ws).allowed
top_set ws v = set_means ws 1 (omega (arith, v.floor)) ∙ slot_top (get_or ws 0 0) ws 1 v.top

-- the configuration of a used bit
within : (n t p : ℕ) → t < width n → p < used n → t * 64 + p < 2 ^ n
within n t p ht hp = ⊎_elim
    (λ (few : n < 6).
    let one : width n ≡ 1 = ap (λ (z : ℕ). 2 ^ z) (sub_none few) in
    omega (arith, one, ht, hp))
    (λ (many : 6 ≤ n).
    let e : (n - 6) + 6 ≡ n = omega (arith, many) in
    let p : 2 ^ n ≡ 2 ^ (n - 6) * 64 = ap (λ (z : ℕ). 2 ^ z) (sym e) ∙ pow-add 2 (n - 6) 6 in
    omega (arith, p, ht, hp))
    (cases_lt n 6)
  where
    sub_none : n < 6 → n - 6 ≡ 0
    sub_none h = omega (arith, h)

-- a search through the words of a slot
module _ (n : ℕ) (ws : List ℕ) (j : ℕ) where
  pub lowest_none : ((s : ℕ) → s < width n → get_or ws (start n j + s) 0 ≡ 0) → Empty (slot n ws j)
  lowest_none zeros = λ k. ap (λ (x : Set). x k) (slot_none n ws j zeros)

  module _ (t x : ℕ) (lt : t < width n) (e : x ≡ get_or ws (start n j + t) 0) (pos : 0 < x) (small : x < 2 ^ used n)
      (zeros : (s : ℕ) → s < t → get_or ws (start n j + s) 0 ≡ 0) where
    abbrev z : ℕ
    z = count_trailing_zeros 64 x

    abbrev k : ℕ
    k = t * 64 + z

    z_word : z < 64
    z_word = trailing_within 64 x pos (omega (arith, small, pow_mono {i = used n} {j = 64} (omega arith)))

    z_on : on z x ≡ true
    z_on = trailing_on 64 x z_word

    k_within : k < 2 ^ n
    k_within = within n t z lt (on_within (used n) z x small z_on)

    k_on : on (k % 64) (get_or ws (start n j + k / 64) 0) ≡ true
    k_on =
        let q : k / 64 ≡ t = omega (arith, z_word) in
        let r : k % 64 ≡ z = omega (arith, z_word) in
        (λ i. on (r i) (get_or ws (start n j + q i) 0)) ∙ ap (on z) (sym e) ∙ z_on

    k_first : (i : ℕ) → i < k → on (i % 64) (get_or ws (start n j + i / 64) 0) ≡ false
    k_first i h = ⊎_elim
        (λ (earlier : i / 64 < t). ap (on (i % 64)) (zeros (i / 64) earlier) ∙ on_zero (i % 64))
        (λ (le : t ≤ i / 64).
        let q : i / 64 ≡ t = omega (arith, le, h, z_word) in
        ap (λ (s : ℕ). on (i % 64) (get_or ws (start n j + s) 0)) q ∙ ap (on (i % 64)) (sym e) ∙ trailing_below 64 x (i % 64) (omega (arith, q, h)))
        (cases_lt (i / 64) t)

    pub lowest_found : Lowest (slot n ws j) (t * 64 + count_trailing_zeros 64 x)
    lowest_found =
        record {
          within = and_from (ltb k (2 ^ n)) _ (lt-ltb k (2 ^ n) k_within) k_on;
          first = λ i h. and_right (ltb i (2 ^ n)) _ (k_first i h);
        }

-- a word that is not 0
abbrev pub filled : ℕ → Bool
filled x = not (eqb x 0)

filled_false : (x : ℕ) → filled x ≡ false → x ≡ 0
filled_false x e = grind (arith, common_steps)

filled_true : (x : ℕ) → filled x ≡ true → 0 < x
filled_true x e = grind (arith, common_steps)

-- the first word of a slot that is not 0, where the slot begins at f and has w words
module _ (n : ℕ) (ws : List ℕ) (j f w : ℕ) (fs : f ≡ start n j) (wide : w ≡ width n) (fits : start n j + width n ≤ length ws) where
  abbrev words : List ℕ
  words = take (f + w - f) (drop f ws)

  words_len : length words ≡ width n
  words_len = length-take-le (f + w - f) (drop f ws) (omega (arith, length-drop f ws, fs, wide, fits)) ∙ omega (arith, wide)

  word_at : (t : ℕ) → t < width n → get_or words t 0 ≡ get_or ws (start n j + t) 0
  word_at t h = get_or-take (f + w - f) (drop f ws) t 0 (omega (arith, wide, h)) ∙ get_or-drop f ws t 0 ∙ ap (λ (i : ℕ). get_or ws (i + t) 0) fs

  pub search_none : position filled words ≡ None → Empty (slot n ws j)
  search_none e =
      let all : length words ≤ position_or_len filled words = grind (arith, common_steps) in
      lowest_none n ws j (λ t h. sym (word_at t h) ∙ filled_false _ (fails_before_first filled words t 0 (omega (arith, all, words_len, h))))

  pub search_found : (t : ℕ) → ((i : ℕ) → 2 ≤ i → i < start n j + width n → get_or ws i 0 < 2 ^ used n) → position filled words ≡ Some t
      → Lowest (slot n ws j) (t * 64 + count_trailing_zeros 64 (get_or words t 0))
  search_found t unused e =
      let p = position-Some filled words t 0 e in
      let lt : t < width n = omega (arith, p.0, words_len) in
      let at = word_at t lt in
      let small : get_or words t 0 < 2 ^ used n = subst (λ (x : ℕ). x < 2 ^ used n) (sym at) (unused (start n j + t) (omega arith) (omega (arith, lt))) in
      lowest_found n ws j t (get_or words t 0) lt at (filled_true _ p.1) small
      (λ s h. sym (word_at s (omega (arith, h, lt))) ∙ filled_false _ (p.2 s h))

-- the bit of a configuration
pub held_bit : (ws : List ℕ) (a k : ℕ) → a < get_or ws 1 0 → k < 2 ^ (get_or ws 0 0) → on (k % 64) (get_or ws (start (get_or ws 0 0) a + k / 64) 0) ≡ set_at (means ws) a k
held_bit ws a k h l =
    ap (λ (b : Bool). b && on (k % 64) (get_or ws (start (get_or ws 0 0) a + k / 64) 0)) (sym (lt-ltb k (2 ^ (get_or ws 0 0)) l))
    ∙ ap (λ (s : Set). s k) (sym (set_means ws a h))

pub configuration_below : (n k : ℕ) → n ≤ 10 → k < (1 * 2 ^ n) % 4294967296 → k < 2 ^ n
configuration_below n k few h = omega (arith, h, one_shl n 32 (omega (arith, few)))

-- the lowest of a slot is the lowest of its set
pub lowest_held : (ws : List ℕ) (a n : ℕ) (r : Option ℕ) → n ≡ get_or ws 0 0 → a < get_or ws 1 0 → LowestIf (slot n ws a) r → LowestIf (set_at (means ws) a) r
lowest_held ws a n r e h l = subst (λ (s : Set). LowestIf s r) (ap (λ (z : ℕ). slot z ws a) e ∙ sym (set_means ws a h)) l

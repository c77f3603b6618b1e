-- What words with slots taken off mean. Assumes nothing.
--   word_within   the word of a configuration is one of its slot's
--   guarded       two tests behind a guard are one if they are where the guard holds
--   slot_same     where words are the same, so are sets
--   sets_same     lists of the same sets
--   cut_to, cut_back   the slots from a number on are taken off
--   kept_cuts     a release leaves what a release should
use Rattle.std.specs.Prelude.{◌≡◌, ℕ, ◌+◌, ◌-◌, ◌*◌, ◌/◌, ◌%◌, ◌^◌, ◌<◌, ◌≤◌, Bool, true, false, ◌&&◌, ltb, List, map, length, take, slice_index, refl}
use Rattle.std.proofs.Common.{sym, ap, ◌∙◌, subst, ⊎_elim, arith, pow_pos, pow_mono, pow-add}
use mathlib.Core.Path.{fun_ext}
use Rattle.std.specs.List.{range_with_len}
use Rattle.std.proofs.lemmas.List.FromFn.{length-map-range_with_len, get_or-map-range_with_len, take-map-range_with_len, fill_by_all}
use Rattle.std.proofs.lemmas.Bool.{cases_lt, ltb-true}
use Rattle.stores.specs.Sets.{Set, empty, on}
use Rattle.stores.specs.Model.{Model, kept, CutTo}
use Rattle.stores.specs.Outcome.{CutBack}
use Rattle.bitmaps.specs.Layout.{width, start}
use Rattle.bitmaps.specs.Meaning.{slot, model_of, means, Valid, cut_words}
use Rattle.bitmaps.specs.Cutting.{size_means, length_cut, kept_cut, n_cut, count_cut, start_before}

-- the word of a configuration is one of its slot's, and its bit is used
pub word_within : (n k : ℕ) → k < 2 ^ n → k / 64 < width n
word_within n k h =
    ⊎_elim
    (λ (few : n < 6).
    let p : 2 ^ n ≤ 2 ^ 6 = pow_mono {i = n} {j = 6} (omega (arith, few)) in
    omega (arith, p, h, pow_pos (n - 6)))
    (λ (many : 6 ≤ n).
    let q : (n - 6) + 6 ≡ n = omega (arith, many) in
    let p : 2 ^ n ≡ 2 ^ (n - 6) * 64 = ap (λ (z : ℕ). 2 ^ z) (sym q) ∙ pow-add 2 (n - 6) 6 in
    omega (arith, p, h))
    (cases_lt n 6)

-- tests behind a guard
pub guarded : (b x y : Bool) → (b ≡ true → x ≡ y) → (b && x) ≡ (b && y)
guarded true x y h = h refl
guarded false x y h = refl

-- where words are the same, so are sets
pub slot_same : (n : ℕ) (ws ws' : List ℕ) (i j : ℕ) → ((t : ℕ) → t < width n → slice_index ws' (start n j + t) ≡ slice_index ws (start n i + t)) → slot n ws' j ≡ slot n ws i
slot_same n ws ws' i j same =
    fun_ext (λ k. guarded (ltb k (2 ^ n)) _ _ (λ h. ap (on (k % 64)) (same (k / 64) (word_within n k (ltb-true k (2 ^ n) h)))))

-- lists of the same sets
pub sets_same : (f g : ℕ → Set) (c : ℕ) → ((j : ℕ) → j < c → f j ≡ g j) → map f (range_with_len 0 c) ≡ map g (range_with_len 0 c)
sets_same f g c h =
    fill_by_all g (map f (range_with_len 0 c)) c empty (length-map-range_with_len f 0 c)
    (λ j lt. get_or-map-range_with_len f 0 c j j empty lt (omega arith) ∙ h j lt)

module _ (ws : List ℕ) where
  abbrev N : ℕ
  N = slice_index ws 0

  -- cut no further than the floor
  module _ (v : Valid ws) (k : ℕ) (low : 2 ≤ k) (top : k ≤ slice_index ws 1) where
    slot_cut : (j : ℕ) → j < k → slot N (cut_words ws k) j ≡ slot N ws j
    slot_cut j h = slot_same N ws (cut_words ws k) j j (λ t lt. kept_cut ws k (start N j + t) (λ e. omega (arith, e)) (omega (arith, lt, start_before N j k h)))

    model_cut : means (cut_words ws k) ≡ model_of N k (length ws) (cut_words ws k)
    model_cut = λ i. model_of (n_cut ws k i) (count_cut ws k v.header i) (length_cut ws k i) (cut_words ws k)

    held_cut : map (slot N (cut_words ws k)) (range_with_len 0 k) ≡ take k (means ws).held
    held_cut = sets_same (slot N (cut_words ws k)) (slot N ws) k slot_cut ∙ sym (take-map-range_with_len (slot N ws) 0 (slice_index ws 1) k top)

    pub cut_to : (to : ℕ) → kept (means ws) to ≡ k → CutTo (means ws) (means (cut_words ws k)) to
    cut_to to e =
        subst (λ (m : Model). CutTo (means ws) m to) (sym model_cut)
        (record { same = record { n = refl; allowed = refl; floor = refl; capacity = refl }; held = held_cut ∙ ap (λ (z : ℕ). take z (means ws).held) (sym e) })

    pub cut_back : (to : ℕ) → kept (means ws) to ≡ k → CutBack means cut_words ws (cut_words ws k) to
    cut_back to e = record { cut = cut_to to e; value = ap (cut_words ws) (sym e) }

-- a release leaves what a release should
pub kept_cuts : (ws : List ℕ) → Valid ws → (k : ℕ) → CutTo (means ws) (means (cut_words ws (kept (means ws) k))) k
kept_cuts ws v k = cut_to ws v (kept (means ws) k) (omega arith) (omega (arith, size_means ws, v.floor)) k refl

-- What words with slots taken off are, and that words in order stay so. Assumes nothing.
--   starts             later slots begin later
--   range_later        what is out of a range is out of one that begins later
--   cond_same          two choices by one test are equal if they are where the test fails
--   size_means         as many sets are held as the words say
--   set_means          the set held under a number is the one in its slot
--   inside             held sets have no configuration of 2^n or above
--   means_consistent   words in order mean a consistent store
--   one_bound          the need of every operation is within the bound
--   length_cut         taking slots off leaves as many words
--   get_or_cut           what it makes of each word
--   other_cut          what it makes of each word but the count, at any place
--   kept_cut           the words before the slots taken off are as they were
--   n_cut              so is the number of switches
--   cut_twice          taking off in two steps is taking off at once
--   cut_nothing        taking nothing off changes nothing
--   valid_cut          words in order are in order with slots above the floor taken off
--   valid_kept         so they are after any release
use Rattle.std.specs.Prelude.{◌≡◌, ℕ, ◌+◌, ◌*◌, ◌^◌, ◌<◌, ◌≤◌, Bool, true, false, cond, ◌&&◌, ltb, leb, List, map, length, ◌==◌, ◌≢◌, nat_le, nat_lt, slice_index, refl}
use Rattle.std.proofs.Common.{sym, ap, ◌∙◌, subst, ⊎_elim, mul-le-mul_right, suc-mul, add-one, arith, pow_pos}
use Rattle.std.specs.List.{range_with_len}
use Rattle.std.proofs.lemmas.List.FromFn.{length-map-range_with_len, get_or-map-range_with_len, fill_by_all}
use Rattle.std.proofs.lemmas.List.{get_or_past}
use Rattle.std.proofs.lemmas.Bool.{cases_lt, leb-true, leb-false, ltb-true, eqb-true, eqb-false, le-leb, lt-leb, lt-ltb, ne_eqb, and_from, and_cases, and_parts, and_left, and_right, cond-true, cond-false, cond_both, true≢false}
use Rattle.stores.specs.Sets.{Set, empty}
use Rattle.stores.specs.Model.{Consistent, set_at, kept}
use Rattle.stores.specs.Outcome.{Op}
use Rattle.bitmaps.specs.Layout.{width, used, slots, start}
use Rattle.bitmaps.specs.Meaning.{slot, means, ValidOf, Valid, one, cut_word, cut_words}

pub starts : (n i j : ℕ) → i ≤ j → start n i ≤ start n j
starts n i j h = omega (arith, mul-le-mul_right {m = i} {n = j} (width n) h)

pub start_next : (n j : ℕ) → start n (j + 1) ≡ start n j + width n
start_next n j = omega (arith, suc-mul j (width n), ap (λ (z : ℕ). z * width n) (add-one j))

pub start_before : (n i j : ℕ) → i < j → start n i + width n ≤ start n j
start_before n i j h = omega (arith, start_next n i, starts n (i + 1) j (omega (arith, h)))

-- what is out of range from an earlier place is so from a later one
range_later : (f g t i : ℕ) → f ≤ g → (nat_le f i && nat_lt i t) ≡ false → (nat_le g i && nat_lt i t) ≡ false
range_later f g t i h e = ⊎_elim
    (λ (x : leb f i ≡ false). and_left (nat_le g i) (nat_lt i t) (lt-leb g i (omega (arith, h, leb-false f i x))))
    (λ (y : ltb i t ≡ false). and_right (nat_le g i) (nat_lt i t) y)
    (and_cases (nat_le f i) (nat_lt i t) e)

cond_same : {A : Type 0} (b : Bool) (x y z : A) → (b ≡ false → y ≡ z) → cond b x y ≡ cond b x z
cond_same true x y z h = refl
cond_same false x y z h = h refl

module _ (ws : List ℕ) where
  abbrev N : ℕ
  N = slice_index ws 0

  abbrev C : ℕ
  C = slice_index ws 1

  abbrev cap : ℕ
  cap = slots (length ws) N

  pub size_means : length (means ws).held ≡ C
  size_means = length-map-range_with_len (slot N ws) 0 C

  pub set_means : (a : ℕ) → a < C → set_at (means ws) a ≡ slot N ws a
  set_means a h = get_or-map-range_with_len (slot N ws) 0 C a a empty h (omega arith)

  inside : (a k : ℕ) → set_at (means ws) a k ≡ true → k < 2 ^ N
  inside a k h = ⊎_elim
      (λ (lt : a < C). ltb-true k (2 ^ N) (and_parts _ _ (sym (ap (λ (x : Set). x k) (set_means a lt)) ∙ h)).0)
      (λ (le : C ≤ a).
      let past : set_at (means ws) a ≡ empty = get_or_past (means ws).held a empty (omega (arith, size_means, le)) in
      absurd (true≢false (sym h ∙ ap (λ (x : Set). x k) past)))
      (cases_lt a C)

  pub means_consistent : Valid ws → Consistent (means ws)
  means_consistent v =
      record {
        few = omega (arith, v.few);
        within = λ k h. ltb-true k (2 ^ N) h;
        some = λ h. true≢false (sym (lt-ltb 0 (2 ^ N) (pow_pos N)) ∙ h 0);
        inside = inside;
        floor = omega (arith, size_means, v.floor);
        room = omega (arith, size_means, v.room);
      }

  pub one_bound : (op : Op) → one op ≤ 2 ^ N
  one_bound op = pow_pos N

  pub length_cut : (k : ℕ) → length (cut_words ws k) ≡ length ws
  length_cut k = length-map-range_with_len (cut_word N cap ws k) 0 (length ws)

  pub get_or_cut : (k i : ℕ) → i < length ws → slice_index (cut_words ws k) i ≡ cut_word N cap ws k i
  get_or_cut k i h = get_or-map-range_with_len (cut_word N cap ws k) 0 (length ws) i i 0 h (omega arith)

  pub other_cut : (k i : ℕ) → (i ≢ 1) → slice_index (cut_words ws k) i ≡ cond (nat_le (start N k) i && nat_lt i (start N cap)) 0 (slice_index ws i)
  other_cut k i ne = ⊎_elim
      (λ (lt : i < length ws). get_or_cut k i lt ∙ cond-false (i == 1) k _ (ne_eqb i 1 ne))
      (λ (le : length ws ≤ i).
      get_or_past (cut_words ws k) i 0 (omega (arith, length_cut k, le))
      ∙ sym (cond_both (nat_le (start N k) i && nat_lt i (start N cap)) 0 (slice_index ws i) (λ (v : ℕ). v ≡ 0) (λ e. refl) (λ e. get_or_past ws i 0 le)))
      (cases_lt i (length ws))

  pub kept_cut : (k i : ℕ) → (i ≢ 1) → i < start N k → slice_index (cut_words ws k) i ≡ slice_index ws i
  kept_cut k i ne h = other_cut k i ne ∙ cond-false (nat_le (start N k) i && nat_lt i (start N cap)) 0 _ (and_left (nat_le (start N k) i) (nat_lt i (start N cap)) (lt-leb (start N k) i h))

  pub n_cut : (k : ℕ) → slice_index (cut_words ws k) 0 ≡ N
  n_cut k = kept_cut k 0 (λ e. omega (arith, e)) (omega arith)

  pub cut_twice : (j k : ℕ) → k ≤ j → cut_words (cut_words ws j) k ≡ cut_words ws k
  cut_twice j k h =
      (λ i. map (cut_word (n_cut j i) (slots (length_cut j i) (n_cut j i)) (cut_words ws j) k) (range_with_len 0 (length_cut j i)))
      ∙ fill_by_all (cut_word N cap ws k) (map (cut_word N cap (cut_words ws j) k) (range_with_len 0 (length ws))) (length ws) 0
      (length-map-range_with_len (cut_word N cap (cut_words ws j) k) 0 (length ws))
      (λ i lt. get_or-map-range_with_len (cut_word N cap (cut_words ws j) k) 0 (length ws) i i 0 lt (omega arith) ∙ word i)
    where
      word : (i : ℕ) → cut_word N cap (cut_words ws j) k i ≡ cut_word N cap ws k i
      word i = cond_same (i == 1) k _ _ (λ e. cond_same (nat_le (start N k) i && nat_lt i (start N cap)) 0 _ _ (λ f.
          other_cut j i (eqb-false i 1 e) ∙ cond-false (nat_le (start N j) i && nat_lt i (start N cap)) 0 _ (range_later (start N k) (start N j) (start N cap) i (starts N k j h) f)))

  pub cut_nothing : Valid ws → cut_words ws C ≡ ws
  cut_nothing v = sym (fill_by_all (cut_word N cap ws C) ws (length ws) 0 refl (λ i h. sym (word i)))
    where
      word : (i : ℕ) → cut_word N cap ws C i ≡ slice_index ws i
      word i = cond_both (i == 1) C _ (λ (x : ℕ). x ≡ slice_index ws i)
          (λ e. ap (λ (j : ℕ). slice_index ws j) (sym (eqb-true i 1 e)))
          (λ e. cond_both (nat_le (start N C) i && nat_lt i (start N cap)) 0 (slice_index ws i) (λ (x : ℕ). x ≡ slice_index ws i)
          (λ t. let p = and_parts (nat_le (start N C) i) (nat_lt i (start N cap)) t in
          sym (v.free i (leb-true (start N C) i p.0) (ltb-true i (start N cap) p.1)))
          (λ f. refl))

  zero_cut : (k i : ℕ) → start N k ≤ i → i < start N cap → slice_index (cut_words ws k) i ≡ 0
  zero_cut k i lo hi =
      let ne : i ≡ 1 → ⊥ = λ e. omega (arith, lo, e) in
      other_cut k i ne
      ∙ cond-true (nat_le (start N k) i && nat_lt i (start N cap)) 0 _ (and_from (nat_le (start N k) i) (nat_lt i (start N cap)) (le-leb (start N k) i lo) (lt-ltb i (start N cap) hi))

  pub count_cut : (k : ℕ) → 2 ≤ length ws → slice_index (cut_words ws k) 1 ≡ k
  count_cut k h = get_or_cut k 1 (omega (arith, h))

  module _ (v : Valid ws) (k : ℕ) (low : 2 ≤ k) (top : k ≤ C) where
    pub valid_cut : Valid (cut_words ws k)
    valid_cut =
        let w : ValidOf N k (length ws) (cut_words ws k) = record {
          header = v.header;
          few = v.few;
          floor = low;
          room = omega (arith, top, v.room);
          none = λ t lt. kept_cut k (start N 0 + t) (λ e. omega (arith, e)) (omega (arith, lt, start_before N 0 k (omega (arith, low)))) ∙ v.none t lt;
          top = λ t lt. kept_cut k (start N 1 + t) (λ e. omega (arith, e)) (omega (arith, lt, start_before N 1 k (omega (arith, low)))) ∙ v.top t lt;
          unused = λ i lo hi. subst (λ (x : ℕ). x < 2 ^ used N) (sym (kept_cut k i (λ e. omega (arith, lo, e)) hi)) (v.unused i lo (omega (arith, hi, starts N k C top)));
          free = λ i lo hi. zero_cut k i lo hi;
        } in
        subst (λ (n : ℕ). ValidOf n (slice_index (cut_words ws k) 1) (length (cut_words ws k)) (cut_words ws k)) (sym (n_cut k))
        (subst (λ (c : ℕ). ValidOf N c (length (cut_words ws k)) (cut_words ws k)) (sym (count_cut k v.header))
        (subst (λ (l : ℕ). ValidOf N k l (cut_words ws k)) (sym (length_cut k)) w))

  pub valid_kept : Valid ws → (k : ℕ) → Valid (cut_words ws (kept (means ws) k))
  valid_kept v k = valid_cut v (kept (means ws) k) (omega arith) (omega (arith, size_means, v.floor))

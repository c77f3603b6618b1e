-- Words with slots taken off.
use Rattle.std.proofs.Common.{◌≡◌, ℕ, ◌<◌, ◌≤◌, max, false, cond, ◌&&◌, eqb, ltb, leb, List, length, get_or, set, sym, ap, ◌∙◌, subst, ⊎_elim, arith, length-set, get_or-set_other, get_or-set_same}
use Rattle.std.proofs.lemmas.List.FromFn.{fill_by_all}
use Rattle.std.proofs.lemmas.Bool.{cases_lt, leb-true, leb-false, ltb-true, ltb-false, eqb-true, eqb-false, and_parts, and_cases, cond_both}
use Rattle.stores.specs.Model.{kept}
use Rattle.stores.specs.Outcome.{CutBack}
use Rattle.bitmaps.specs.Layout.{slots, start}
use Rattle.bitmaps.specs.Meaning.{means, Valid, cut_word, cut_words}
use Rattle.bitmaps.specs.Stores.{with_words, rollback}
use Rattle.bitmaps.specs.declared.Bitmaps.{Bitmaps}
use Rattle.bitmaps.specs.Cutting.{starts, size_means, cut_nothing}
use Rattle.bitmaps.specs.Laws.{same_words}
use Rattle.bitmaps.specs.Kept.{cut_back}
use Rattle.bitmaps.proofs.Slots.{last_within}

-- what a cut writes: the slots from k on zero, then the count
module _ (ws ws₁ : List ℕ) (v : Valid ws) (k : ℕ) (top : k ≤ get_or ws 1 0) (len : length ws₁ ≡ length ws)
    (made : (i : ℕ) → start (get_or ws 0 0) k ≤ i → i < start (get_or ws 0 0) (get_or ws 1 0) → get_or ws₁ i 0 ≡ 0)
    (before : (i : ℕ) → i < start (get_or ws 0 0) k → get_or ws₁ i 0 ≡ get_or ws i 0)
    (after : (i : ℕ) → start (get_or ws 0 0) (get_or ws 1 0) ≤ i → get_or ws₁ i 0 ≡ get_or ws i 0) where
  abbrev n : ℕ
  n = get_or ws 0 0

  abbrev all : ℕ
  all = slots (length ws) n

  other : (i : ℕ) → get_or ws₁ i 0 ≡ cond (leb (start n k) i && ltb i (start n all)) 0 (get_or ws i 0)
  other i = cond_both (leb (start n k) i && ltb i (start n all)) 0 (get_or ws i 0) (λ (x : ℕ). get_or ws₁ i 0 ≡ x)
      (λ t.
      let p = and_parts (leb (start n k) i) (ltb i (start n all)) t in
      ⊎_elim
      (λ (lt : i < start n (get_or ws 1 0)). made i (leb-true (start n k) i p.0) lt)
      (λ (le : start n (get_or ws 1 0) ≤ i). after i le ∙ v.free i le (ltb-true i (start n all) p.1))
      (cases_lt i (start n (get_or ws 1 0))))
      (λ f. ⊎_elim
      (λ (x : leb (start n k) i ≡ false). before i (leb-false (start n k) i x))
      (λ (y : ltb i (start n all) ≡ false). after i (omega (arith, ltb-false i (start n all) y, starts n (get_or ws 1 0) all v.room)))
      (and_cases (leb (start n k) i) (ltb i (start n all)) f))

  word : (i : ℕ) → get_or (set ws₁ 1 k) i 0 ≡ cut_word n all ws k i
  word i = cond_both (eqb i 1) k _ (λ (x : ℕ). get_or (set ws₁ 1 k) i 0 ≡ x)
      (λ e. ap (λ (j : ℕ). get_or (set ws₁ 1 k) j 0) (eqb-true i 1 e) ∙ get_or-set_same ws₁ 1 k 0 (omega (arith, len, v.header)))
      (λ e. get_or-set_other ws₁ 1 i k 0 (eqb-false i 1 e) ∙ other i)

  pub written_cut : set ws₁ 1 k ≡ cut_words ws k
  written_cut = fill_by_all (cut_word n all ws k) (set ws₁ 1 k) (length ws) 0 (length-set ws₁ 1 k ∙ len) (λ i h. word i)

-- where the slots that are taken off lie
pub cut_range : (ws : List ℕ) → Valid ws → (k : ℕ) → k ≤ get_or ws 1 0
    → (start (get_or ws 0 0) k ≤ start (get_or ws 0 0) (get_or ws 1 0)) × (start (get_or ws 0 0) (get_or ws 1 0) ≤ length ws)
cut_range ws v k top =
    let n = get_or ws 0 0 in (
      starts n k (get_or ws 1 0) top,
      omega (arith, last_within (length ws) n v.header, starts n (get_or ws 1 0) (slots (length ws) n) v.room),
    )

-- what a release leaves is within what was held
kept_once : (ws : List ℕ) → Valid ws → (to : ℕ) → kept (means ws) (kept (means ws) to) ≡ kept (means ws) to
kept_once ws v to = omega (arith, size_means ws, v.floor)

-- the same of the store as a value
cut_back_of : (s : Bitmaps) (ws' : List ℕ) (v' : Valid ws') (to : ℕ) → CutBack means cut_words s.words.now ws' to
    → CutBack (λ (s : Bitmaps). means s.words.now) rollback s (with_words s ws' v') to
cut_back_of s ws' v' to h =
    record {
      cut = h.cut;
      value = same_words s _ _ _ _ (h.value ∙ ap (cut_words s.words.now) (sym (kept_once s.words.now s.valid to)));
    }

-- a release that leaves all sets
pub cut_all : (s : Bitmaps) (to : ℕ) → length (means s.words.now).held ≤ max to 2 → CutBack (λ (s : Bitmaps). means s.words.now) rollback s s to
cut_all s to h =
    let ws = s.words.now in
    cut_back_of s ws s.valid to
    (subst (λ (l : List ℕ). CutBack means cut_words ws l to) (cut_nothing ws s.valid)
    (cut_back ws s.valid (get_or ws 1 0) s.valid.floor (omega arith) to (omega (arith, size_means ws, s.valid.floor, h))))

-- a release that leaves k of them
pub cut_some : (s : Bitmaps) (ws' : List ℕ) (v' : Valid ws') (to k : ℕ) → k ≡ max to 2 → k < length (means s.words.now).held → ws' ≡ cut_words s.words.now k
    → CutBack (λ (s : Bitmaps). means s.words.now) rollback s (with_words s ws' v') to
cut_some s ws' v' to k ks less e =
    let ws = s.words.now in
    cut_back_of s ws' v' to
    (subst (λ (l : List ℕ). CutBack means cut_words ws l to) (sym e)
    (cut_back ws s.valid k (omega (arith, ks)) (omega (arith, less, size_means ws)) to (omega (arith, size_means ws, ks, less))))

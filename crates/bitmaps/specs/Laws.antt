-- What the contract of a store asks of its ghost members, of bitmap stores as values. Assumes nothing.
--   same_store           stores in the same words are the same
--   rollback_is_lawful   taking off leaves what a release leaves; in two steps is taking off at once; taking nothing off changes nothing
use Rattle.std.specs.Prelude.{◌≡◌, ℕ, ◌≤◌, List}
use Rattle.std.proofs.Common.{ap, ◌∙◌, arith}
use Rattle.std.proofs.Props.{props}
use mathlib.Core.HLevel.{is_prop→PathP}
use Rattle.stores.specs.Model.{kept}
use Rattle.stores.specs.Outcome.{RollbackLaws}
use Rattle.bitmaps.specs.Meaning.{means, Valid, cut_words}
use Rattle.bitmaps.specs.Cutting.{size_means, count_cut, cut_twice, cut_nothing}
use Rattle.bitmaps.specs.Kept.{kept_cuts}
use Rattle.bitmaps.specs.Stores.{with_words, rollback}
use Rattle.bitmaps.specs.declared.Bitmaps.{Bitmaps}

-- words are in order in one way at most
Valid_prop : (ws : List ℕ) → IsProp (Valid ws)
Valid_prop ws = Prim.hlevel props

pub same_store : (s t : Bitmaps) → s.words ≡ t.words → s ≡ t
same_store s t e = λ i. record { words = e i; valid = is_prop→PathP (λ i. Valid (e i).now) (λ i. Valid_prop (e i).now) s.valid t.valid i }

pub same_words : (s : Bitmaps) (ws ws' : List ℕ) (v : Valid ws) (v' : Valid ws') → ws ≡ ws' → with_words s ws v ≡ with_words s ws' v'
same_words s ws ws' v v' e = same_store (with_words s ws v) (with_words s ws' v') (ap (λ (l : List ℕ). record { ref_ptr = s.words.ref_ptr; ghost_name = s.words.ghost_name; now = l }) e)

-- where a release in two steps ends
kept_twice : (ws : List ℕ) → Valid ws → (j k : ℕ) → k ≤ j → kept (means (cut_words ws (kept (means ws) j))) k ≡ kept (means ws) k
kept_twice ws v j k h =
    let few = size_means (cut_words ws (kept (means ws) j)) in
    let cut = count_cut ws (kept (means ws) j) v.header in
    omega (arith, few, cut, size_means ws, v.floor, h)

pub rollback_is_lawful : RollbackLaws (λ (s : Bitmaps). means s.words.now) rollback
rollback_is_lawful =
    record {
      cuts = λ s k. kept_cuts s.words.now s.valid k;
      twice = λ s j k h.
          let ws = s.words.now in
          same_words s _ _ _ _
          (ap (cut_words (cut_words ws (kept (means ws) j))) (kept_twice ws s.valid j k h)
          ∙ cut_twice ws (kept (means ws) j) (kept (means ws) k) (omega (arith, h)));
      nothing = λ s.
          let ws = s.words.now in
          same_store _ s (ap (λ (l : List ℕ). record { ref_ptr = s.words.ref_ptr; ghost_name = s.words.ghost_name; now = l })
          (ap (cut_words ws) (omega (arith, size_means ws, s.valid.floor)) ∙ cut_nothing ws s.valid));
    }

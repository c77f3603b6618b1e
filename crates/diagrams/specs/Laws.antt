-- What the contract of a store asks of its ghost members, of diagram stores as values. Assumes nothing.
--   Valid_prop           words are in order in one way at most
--   same_words           stores in the same words are the same
--   kept_twice           where a release in two steps ends
--   kept_all             where a release to all that is held ends
--   rollback_is_lawful   taking off leaves what a release leaves; in two steps is taking off at once; taking nothing off changes nothing
use Rattle.std.specs.Prelude.{◌≡◌, ℕ, ◌≤◌, List, length, refl}
use Rattle.std.proofs.Common.{ap, ◌∙◌, arith}
use Rattle.std.proofs.Props.{props}
use mathlib.Core.HLevel.{is_prop→PathP}
use Rattle.stores.specs.Model.{kept}
use Rattle.stores.specs.Outcome.{RollbackLaws}
use Rattle.cells.specs.Words.{count, cells_of, Valid}
use Rattle.cells.specs.Rolling.{rolled}
use Rattle.cells.proofs.Chained.{length_cells}
use Rattle.cells.proofs.Grow.{grows_refl}
use Rattle.cells.proofs.Rolling.{count_rolled, rolled_twice, rolled_back}
use Rattle.diagrams.specs.Meaning.{means}
use Rattle.diagrams.specs.Cutting.{size_means, cut_words, kept_cuts}
use Rattle.diagrams.specs.Stores.{with_words, rollback}
use Rattle.diagrams.specs.declared.Diagrams.{Diagrams}

Valid_prop : (ws : List ℕ) → IsProp (Valid ws)
Valid_prop ws = Prim.hlevel props

pub same_words : (s : Diagrams) (ws ws' : List ℕ) (v : Valid ws) (v' : Valid ws') → ws ≡ ws' → with_words s ws v ≡ with_words s ws' v'
same_words s ws ws' v v' e = λ i. with_words s (e i) (is_prop→PathP (λ i. Valid (e i)) (λ i. Valid_prop (e i)) v v' i)

two_held : (ws : List ℕ) → Valid ws → 2 ≤ count ws
two_held ws v = omega (arith, length_cells ws, v.formed.reduced.two)

pub kept_all : (ws : List ℕ) → Valid ws → kept (means ws) (length (means ws).held) ≡ count ws
kept_all ws v = omega (arith, size_means ws, two_held ws v)

kept_twice : (ws : List ℕ) → Valid ws → (j k : ℕ) → k ≤ j → kept (means (cut_words ws j)) k ≡ kept (means ws) k
kept_twice ws v j k h = omega (arith, size_means (cut_words ws j), count_rolled ws (kept (means ws) j) (omega (arith, v.formed.lies.room)), size_means ws, two_held ws v, h)

pub rollback_is_lawful : RollbackLaws (λ (s : Diagrams). means s.words.now) rollback
rollback_is_lawful =
    record {
      cuts = λ s k. kept_cuts s.words.now s.valid k;
      twice = λ s j k h.
          let ws = s.words.now in
          same_words s _ _ _ _
          (ap (rolled (cut_words ws j)) (kept_twice ws s.valid j k h) ∙ rolled_twice ws (kept (means ws) j) (kept (means ws) k) (omega (arith, h)));
      nothing = λ s.
          let ws = s.words.now in
          same_words s _ ws _ s.valid
          (ap (rolled ws) (kept_all ws s.valid) ∙ rolled_back ws ws s.valid s.valid refl refl (grows_refl (cells_of ws)) (λ i h. refl));
    }

-- Stores that grow and are cut.
use Rattle.std.proofs.Common.{◌≡◌, ℕ, ◌-◌, ◌≤◌, max, List, length, take, sym, refl, ap, ◌∙◌, arith}
use Rattle.stores.specs.Model.{Appended, kept}
use Rattle.stores.specs.Outcome.{CutBack}
use Rattle.cells.specs.Words.{count, Valid, Cut}
use Rattle.cells.specs.Rolling.{rolled}
use Rattle.cells.proofs.Chained.{length_cells}
use Rattle.cells.proofs.Popped.{cut_none}
use Rattle.cells.proofs.Rolling.{rolled_cut}
use Rattle.diagrams.specs.Meaning.{means}
use Rattle.diagrams.specs.Cutting.{size_means, grown}
use Rattle.diagrams.specs.Stores.{with_words, rollback}
use Rattle.diagrams.specs.Laws.{same_words}
use Rattle.diagrams.specs.declared.Diagrams.{Diagrams}

-- what a cut leaves
module _ (s : Diagrams) (ws' : List ℕ) (v' : Valid ws') (m : ℕ) (len : length ws' ≡ length s.words.now) (c : Cut s.words.now ws' m) where
  abbrev ws₀ : List ℕ
  ws₀ = s.words.now

  back : Appended (means ws') (means ws₀) (count ws₀ - count ws')
  back = grown ws' ws₀ v' (sym len) (sym c.switches_same) c.fewer

  pub cut_back : (to : ℕ) → kept (means ws₀) to ≡ m → CutBack (λ (s : Diagrams). means s.words.now) rollback s (with_words s ws' v') to
  cut_back to e =
      let k : length (means ws').held ≡ kept (means ws₀) to = size_means ws' ∙ c.count_is ∙ sym e in
      let again : kept (means ws₀) (kept (means ws₀) to) ≡ m = omega (arith, e, k, size_means ws', size_means ws₀, length_cells ws', length_cells ws₀, c.fewer.longer) in
      record {
        cut = record {
          same = record { n = sym back.same.n; allowed = sym back.same.allowed; floor = refl; capacity = sym back.same.capacity };
          held = sym (ap (λ (j : ℕ). take j (means ws₀).held) (sym k) ∙ back.before);
        };
        value = same_words s ws' _ v' _ (sym (ap (rolled ws₀) again ∙ rolled_cut ws₀ ws' m s.valid len c));
      }

-- a release that leaves all sets
pub cut_all : (s : Diagrams) (to : ℕ) → count s.words.now ≤ max to 2 → CutBack (λ (s : Diagrams). means s.words.now) rollback s s to
cut_all s to h =
    let ws : List ℕ = s.words.now in
    cut_back s ws s.valid (count ws) refl (cut_none ws s.valid.formed) to (omega (arith, size_means ws, h, length_cells ws, s.valid.formed.reduced.two))

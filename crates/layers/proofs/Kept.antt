-- Preparing, once its mark is kept or released, and making.
use Rattle.std.proofs.Common.{◌≡◌, ℕ, ◌<◌, Ok, Err, sym, subst}
use Rattle.stores.specs.Model.{Model, set_at, size, Consistent}
use Rattle.stores.specs.Outcome.{Op, RollbackLaws, CutBack}
use Rattle.stores.specs.Steps.{Runs}
use Rattle.stores.proofs.Models.{release_restores}
use Rattle.layers.specs.Preparing.{preparing, WorksOut, Attempts, PrepareAccepted, PrepareRefused}
use Rattle.layers.specs.Making.{Made}
use Rattle.stores.specs.declared.Store.{Ghosts}
use Rattle.layers.specs.declared.Layer.{Layer}
use Rattle.layers.specs.declared.fault.LayerFault.{LayerFault}
use Rattle.layers.specs.declared.preparation.Prepared.{Prepared}
use Rattle.layers.proofs.Meaning.{none_left, fits_after}

module _ {S : Type 0} {model : S → Model} {rollback : S → ℕ → S} (laws : RollbackLaws model rollback) (need : S → Op → ℕ)
    (consistent : (s : S) → Consistent (model s)) where
  pub kept_after : {s s₁ s₂ : S} {top a : ℕ} {p : Prepared} → (top < (model s).floor) × (set_at (model s) top ≡ (model s).allowed)
      → WorksOut model rollback need s s₁ top a (Ok p) → s₂ ≡ s₁ → Attempts model rollback need s s₂ a (Ok p) × PrepareAccepted model rollback s s₂ a p
  kept_after {s} {s₁} {s₂} {top} {a} {p} t w e =
      let g = w.advanced in
      let f = fits_after model rollback need top a s s₁ t.1 p (consistent s₁) w.floor g.grown.appended.same.n w.runs in
      subst (λ (z : S). Attempts model rollback need s z a (Ok p) × PrepareAccepted model rollback s z a p) (sym e) (
        record { top = top; low = t.0; all = t.1; steps = w.runs },
        record { advanced = g; set = f.0; fits = f.1; floor = w.floor },
      )

  module _ {s s₁ s₂ : S} {top a to : ℕ} {f : LayerFault} (t : (top < (model s).floor) × (set_at (model s) top ≡ (model s).allowed))
      (w : WorksOut model rollback need s s₁ top a (Err f)) (is : to ≡ size (model s)) (cut : CutBack model rollback s₁ s₂ to) where
    restored : s₂ ≡ s
    restored = release_restores laws to (consistent s) w.advanced is cut

    pub released_attempts : Attempts model rollback need s s₂ a (Err f)
    released_attempts = record { top = top; low = t.0; all = t.1; steps = (restored, (s₁, w.runs)) }

    pub released_refused : PrepareRefused model s s₂ a f
    released_refused =
        record {
          same = restored;
          none = λ e. none_left model rollback need top a s s₁ t.1 (subst (λ (x : LayerFault). Runs model rollback need (preparing (model s).n top a) s s₁ (Err x)) e w.runs);
        }

-- the layer over what was prepared
pub made_after : {S : Type 0} {T : Ghosts S} {s s₁ : S} {a : ℕ} {p : Prepared} (l : Layer S T) → l.below ≡ s₁ → l.prepared ≡ p
    → Attempts T.model T.rollback T.need s s₁ a (Ok p) → PrepareAccepted T.model T.rollback s s₁ a p
    → Attempts T.model T.rollback T.need s l.below a (Ok l.prepared) × Made s a l
made_after {S} {T} {s} {s₁} {a} {p} l e f t r =
    let t' = subst (λ (q : Prepared). Attempts T.model T.rollback T.need s l.below a (Ok q)) (sym f)
    (subst (λ (z : S). Attempts T.model T.rollback T.need s z a (Ok p)) (sym e) t) in
    let r' = subst (λ (q : Prepared). PrepareAccepted T.model T.rollback s l.below a q) (sym f)
    (subst (λ (z : S). PrepareAccepted T.model T.rollback s z a p) (sym e) r) in
    let u = r'.advanced.grown.appended.same in
    (t', record { advanced = r'.advanced; n = u.n; allowed = r'.set; floor = r'.floor; capacity = u.capacity })

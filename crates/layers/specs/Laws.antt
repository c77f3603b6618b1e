-- The laws of a store, shown for a layer from those of the store below.
--   over_consistent       a layer keeps the bounds that every store keeps
--   needs_bounded         its needs have the bound that those below have
--   same_layer            layers over the same store with the same numbers prepared are the same
--   layer_rollback_laws   taking numbers off has its laws
use Rattle.std.specs.Prelude.{◌≡◌, ℕ, ◌≤◌, max, length, refl}
use Rattle.std.proofs.Common.{ap, zero-le, ◌∙◌, arith}
use Rattle.std.proofs.Props.{props}
use mathlib.Core.HLevel.{is_prop→PathP}
use Rattle.stores.specs.Model.{Model, Consistent}
use Rattle.stores.specs.Outcome.{Op, switch, both, either, less, RollbackLaws}
use Rattle.stores.specs.declared.Store.{Ghosts}
use Rattle.layers.specs.declared.preparation.Prepared.{Prepared}
use Rattle.layers.specs.declared.Layer.{Layer}
use Rattle.layers.specs.Fitting.{Fits, over, needs, cut_over}
use Rattle.layers.specs.Layered.{layer_model, layer_rollback}

pub over_consistent : {m : Model} {p : Prepared} → Consistent m → Fits m p → Consistent (over m p)
over_consistent {m} {p} ok f =
    record { few = ok.few; within = ok.inside p.top; some = f.some; inside = ok.inside; floor = f.high; room = ok.room }

pub needs_bounded : (bound : ℕ) (need : Op → ℕ) → ((op : Op) → need op ≤ bound) → (op : Op) → needs need op ≤ bound
needs_bounded bound need h (switch i) = zero-le
needs_bounded bound need h (both a b) = h (both a b)
needs_bounded bound need h (either a b) = h (either a b)
needs_bounded bound need h (less a b) = h (less a b)

-- what is prepared fits in one way at most
Fits_prop : (m : Model) (p : Prepared) → IsProp (Fits m p)
Fits_prop m p = Prim.hlevel props

pub same_layer : {S : Type 0} {T : Ghosts S} (l l' : Layer S T) → l.below ≡ l'.below → l.prepared ≡ l'.prepared → l ≡ l'
same_layer {S} {T} l l' e p =
    λ i. record { below = e i; prepared = p i; fits = is_prop→PathP (λ i. Fits (T.model (e i)) (p i)) (λ i. Fits_prop (T.model (e i)) (p i)) l.fits l'.fits i }

pub layer_rollback_laws : {S : Type 0} {T : Ghosts S} → RollbackLaws (λ (l : Layer S T). layer_model l) (λ (l : Layer S T) (k : ℕ). layer_rollback l k)
layer_rollback_laws {S} {T} =
    record {
      cuts = λ l k. cut_over k l.fits refl (T.rollback_laws.cuts l.below (max k l.prepared.floor));
      twice = λ l j k h.
          let floor = l.prepared.floor in
          same_layer _ _ (T.rollback_laws.twice l.below (max j floor) (max k floor) (omega (arith, h))) refl;
      nothing = λ l.
          let held = length (T.model l.below).held in
          let all : max held l.prepared.floor ≡ held = omega (arith, l.fits.high) in
          same_layer _ _ (ap (T.rollback l.below) all ∙ T.rollback_laws.nothing l.below) refl;
    }

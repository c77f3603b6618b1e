-- A layer over a store that grows or is cut.
use Rattle.std.proofs.Common.{◌≡◌, ℕ, ◌-◌, ◌<◌, max, length, get_or, Ok, Err, Result, sym, refl, ap, ◌∙◌, subst, zero-le, arith, le-ltb, lt-ltb}
use Rattle.stores.specs.Model.{Model, kept, Appended}
use Rattle.stores.specs.Outcome.{Op, switch, result, refusal, Extends, Outcome, CutBack}
use Rattle.stores.specs.Joined.{joined}
use Rattle.stores.specs.declared.connective.Connective.{Connective}
use Rattle.stores.specs.declared.connective.Connective.TheVariants.{Both, Either, Less}
use Rattle.stores.specs.declared.fault.StoreFault.{StoreFault}
use Rattle.stores.specs.declared.Store.{Ghosts}
use Rattle.stores.proofs.Models.{set_before, appended_none}
use Rattle.layers.specs.Fitting.{Fits, Untouched, fits_on, over, over_unmoved, cut_over}
use Rattle.layers.specs.Layered.{layer_model, layer_need, layer_rollback}
use Rattle.layers.specs.Laws.{same_layer, layer_rollback_laws}
use Rattle.layers.specs.declared.Layer.{Layer}
use Rattle.layers.specs.declared.preparation.Prepared.{Prepared}

pub appended_untouched : {m m' : Model} {p : Prepared} {more : ℕ} → Fits m p → Appended m m' more → Untouched m m' p.floor
appended_untouched f g =
    record { same = g.same; high = omega (arith, g.len, f.high); sets = λ j h. set_before g j (omega (arith, f.high)) }

-- the layer's model grows as the store's does
pub over_appended : {m m' : Model} {p : Prepared} {more : ℕ} → Fits m p → Appended m m' more → Appended (over m p) (over m' p) more
over_appended f g = record { same = over_unmoved f (appended_untouched f g); before = g.before; len = g.len }

-- an operation below leaves what was prepared in order
pub outcome_fits : {S : Type 0} (T : Ghosts S) (s s' : S) {p : Prepared} (op : Op) (r : Result ℕ StoreFault) → Fits (T.model s) p
    → Outcome T.model T.rollback T.need s s' op r → Fits (T.model s') p
outcome_fits T s s' op (Ok r) f h = fits_on f (appended_untouched f h.grown.appended)
outcome_fits {S} T s s' {p} op (Err e) f h = subst (λ (z : S). Fits (T.model z) p) (sym h.same) f

-- the store below a layer is replaced by another that what was prepared fits
module _ {S : Type 0} {T : Ghosts S} (l : Layer S T) (s' : S) (f' : Fits (T.model s') l.prepared) where
  abbrev replaced : Layer S T
  replaced = record { below = s'; prepared = l.prepared; fits = f' }

  -- an operation that means, refuses and needs the same above as below is passed on
  pub outcome_over : (op : Op) (r : Result ℕ StoreFault)
      → refusal (layer_model l) (layer_need l op) op ≡ refusal (T.model l.below) (T.need l.below op) op
      → layer_need l op ≡ T.need l.below op → result (layer_model l) op ≡ result (T.model l.below) op → Outcome T.model T.rollback T.need l.below s' op r
      → Outcome (λ (l : Layer S T). layer_model l) (λ (l : Layer S T) (k : ℕ). layer_rollback l k) (λ (l : Layer S T) (op : Op). layer_need l op) l replaced op r
  outcome_over op (Ok r) due needed set h =
      let held = length (T.model l.below).held in
      let all : max held l.prepared.floor ≡ held = omega (arith, l.fits.high) in
      record {
        due = due ∙ h.due;
        grown = subst (Extends (λ (l : Layer S T). layer_model l) (λ (l : Layer S T) (k : ℕ). layer_rollback l k) l replaced) (sym needed)
            (record { appended = over_appended l.fits h.grown.appended; undo = same_layer _ _ (ap (T.rollback s') all ∙ h.grown.undo) refl });
        within = h.within;
        set = h.set ∙ sym set;
      }
  outcome_over op (Err e) due needed set h = record { due = due ∙ h.due; same = same_layer _ _ h.same refl }

  pub join_over : (how : Connective) (a b : ℕ) (r : Result ℕ StoreFault) → Outcome T.model T.rollback T.need l.below s' (joined how a b) r
      → Outcome (λ (l : Layer S T). layer_model l) (λ (l : Layer S T) (k : ℕ). layer_rollback l k) (λ (l : Layer S T) (op : Op). layer_need l op) l replaced (joined how a b) r
  join_over Both a b r h = outcome_over (joined Both a b) r refl refl refl h
  join_over Either a b r h = outcome_over (joined Either a b) r refl refl refl h
  join_over Less a b r h = outcome_over (joined Less a b) r refl refl refl h

  -- a cut that stops at the layer's floor
  pub layer_cut : (to' to : ℕ) → to' ≡ max to l.prepared.floor → CutBack T.model T.rollback l.below s' to'
      → CutBack (λ (l : Layer S T). layer_model l) (λ (l : Layer S T) (k : ℕ). layer_rollback l k) l replaced to
  layer_cut to' to e c =
      let ends : kept (T.model l.below) to' ≡ max (kept (layer_model l) to) l.prepared.floor = omega (arith, l.fits.high, l.fits.low, e) in
      record { cut = cut_over to l.fits e c.cut; value = same_layer _ _ (c.value ∙ ap (T.rollback l.below) ends) refl }

-- a switch is answered from what was prepared
pub switch_over : {S : Type 0} {T : Ghosts S} (l : Layer S T) (i : ℕ) → i < (T.model l.below).n
    → Outcome (λ (l : Layer S T). layer_model l) (λ (l : Layer S T) (k : ℕ). layer_rollback l k) (λ (l : Layer S T) (op : Op). layer_need l op) l l (switch i)
    (Ok (get_or l.prepared.switches i 0))
switch_over {S} {T} l i h =
    let m = T.model l.below in
    record {
      due = rw (lt-ltb i m.n h, le-ltb (m.capacity - length m.held) 0 zero-le);
      grown = record { appended = appended_none (layer_model l); undo = layer_rollback_laws.nothing l };
      within = omega (arith, l.fits.within i h, l.fits.high);
      set = l.fits.set i h;
    }

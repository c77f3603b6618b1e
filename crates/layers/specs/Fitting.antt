-- What was prepared for a rule layer, and the meaning that it gives to the store below. Assumes nothing.
--   Fits m p     what was prepared fits a store that means m: the top is the number of a non-empty set; there is a number for each
--                switch, and the i-th holds those of it with switch i on; these are below the floor, which lies between the store's floor and its
--                length; what is behind them means nothing
--   Untouched m m' k   all is as it was but the held sets from number k on
--   fits_on            what fits a store fits it as long as the sets below the floor are untouched
--   cut_untouched      they are by a release that stops at the floor
--   over_unmoved, cut_over   the layer's meaning then stays, and is cut as the store's
--   over m p     the layer's meaning: the top's set is allowed, the floor is the prepared one, all else is the store's
--   needs need op   the places that an operation needs, `need` below: a switch is worked out already, all else needs as much as below
use Rattle.std.specs.Prelude.{◌≡◌, ℕ, ◌<◌, ◌≤◌, List, max, take, length, slice_index, slice_index_or, refl}
use Rattle.std.proofs.Common.{sym, ap, ◌∙◌, arith, length-take-le, get_or-take}
use Rattle.stores.specs.Sets.{Set, empty, ◌∩◌, on, Empty}
use Rattle.stores.specs.Model.{Model, set_at, kept, Unmoved, CutTo}
use Rattle.stores.specs.Outcome.{Op, switch, both, either, less}
use Rattle.layers.specs.declared.preparation.Prepared.{Prepared}

pub record Fits (m : Model) (p : Prepared) : Type 0 where
  pub top : p.top < p.floor
  pub low : m.floor ≤ p.floor
  pub high : p.floor ≤ length m.held
  pub some : Empty (set_at m p.top) → ⊥
  pub all : m.n ≤ length p.switches
  pub within : (i : ℕ) → i < m.n → slice_index p.switches i < p.floor
  pub set : (i : ℕ) → i < m.n → set_at m (slice_index p.switches i) ≡ set_at m p.top ∩ on i

abbrev pub over : Model → Prepared → Model
over m p = record { n = m.n; allowed = set_at m p.top; held = m.held; floor = p.floor; capacity = m.capacity }

abbrev pub needs : (Op → ℕ) → Op → ℕ
needs need (switch i) = 0
needs need (both a b) = need (both a b)
needs need (either a b) = need (either a b)
needs need (less a b) = need (less a b)

-- what a layer rests on, the sets below its floor, is as it was
pub record Untouched (m m' : Model) (below : ℕ) : Type 0 where
  pub same : Unmoved m m'
  pub high : below ≤ length m'.held
  pub sets : (j : ℕ) → j < below → set_at m' j ≡ set_at m j

pub fits_on : {m m' : Model} {p : Prepared} → Fits m p → Untouched m m' p.floor → Fits m' p
fits_on {m} {m'} {p} f u =
    let top = u.sets p.top f.top in
    record {
      top = f.top;
      low = omega (arith, u.same.floor, f.low);
      high = u.high;
      all = omega (arith, u.same.n, f.all);
      some = λ h. f.some (λ k. ap (λ (s : Set). s k) (sym top) ∙ h k);
      within = λ i h. let h' : i < m.n = omega (arith, u.same.n, h) in f.within i h';
      set = λ i h.
          let h' : i < m.n = omega (arith, u.same.n, h) in
          u.sets (slice_index p.switches i) (f.within i h') ∙ f.set i h' ∙ ap (λ (s : Set). s ∩ on i) (sym top);
    }

pub cut_untouched : {m m' : Model} {p : Prepared} {to : ℕ} → Fits m p → p.floor ≤ to → CutTo m m' to → Untouched m m' p.floor
cut_untouched {m} {m'} {p} {to} f h c =
    let k : ℕ = kept m to in
    let le : p.floor ≤ k = omega (arith, f.high, h) in
    let most : k ≤ length m.held = omega (arith, f.high, f.low) in
    record {
      same = c.same;
      high = omega (arith, ap length c.held, length-take-le k m.held most, le);
      sets = λ j lt. ap (λ (s : List Set). slice_index_or s j empty) c.held ∙ get_or-take k m.held j empty (omega (arith, le, lt));
    }

pub over_unmoved : {m m' : Model} {p : Prepared} → Fits m p → Untouched m m' p.floor → Unmoved (over m p) (over m' p)
over_unmoved {p = p} f u = record { n = u.same.n; allowed = u.sets p.top f.top; floor = refl; capacity = u.same.capacity }

pub cut_over : {m m' : Model} {p : Prepared} {to : ℕ} (k : ℕ) → Fits m p → to ≡ max k p.floor → CutTo m m' to → CutTo (over m p) (over m' p) k
cut_over {m} {m'} {p} {to} k f e c =
    let same : kept m to ≡ kept (over m p) k = omega (arith, f.high, f.low, e) in
    record { same = over_unmoved f (cut_untouched f (omega (arith, e)) c); held = c.held ∙ ap (λ (i : ℕ). take i m.held) same }

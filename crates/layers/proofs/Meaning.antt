-- What a run of the steps of preparing comes to.
use Rattle.std.proofs.Common.{◌≡◌, ℕ, zero, suc, ◌+◌, ◌<◌, Bool, true, false, cond, ◌&&◌, List, [], ◌∷◌, ◌++◌, length, get_or, take, Ok, Err, Result, sym, refl, ap, ◌∙◌, subst, ap₂, ⊎_elim, arith, get_or-take, below_more}
use mathlib.Core.Path.{fun_ext}
use Rattle.std.proofs.lemmas.List.{get_or_append_left, get_or_push, length_push, length-take}
use Rattle.stores.specs.Sets.{Set, ◌∩◌, on, Empty}
use Rattle.stores.specs.Model.{Model, set_at, size, Appended, Consistent}
use Rattle.stores.specs.Outcome.{Op, both, Accepted}
use Rattle.stores.specs.Steps.{Steps, fail, TellsEmpty, Runs}
use Rattle.stores.proofs.Models.{set_before, appended_trans}
use Rattle.stores.proofs.Runs.{ok_same, ok_not_err}
use Rattle.stores.specs.declared.fault.StoreFault.{StoreFault}
use Rattle.layers.specs.Fitting.{Fits}
use Rattle.layers.specs.Preparing.{Numbers, switching, preparing}
use Rattle.layers.specs.declared.fault.LayerFault.{LayerFault}
use Rattle.layers.specs.declared.fault.LayerFault.TheVariants.{Store, NoneAllowed}
use Rattle.layers.specs.declared.preparation.Prepared.{Prepared}

-- the numbers ys hold those of R with each switch below i on
pub record Switched (m : Model) (R i : ℕ) (ys : List ℕ) : Type 0 where
  pub len : length ys ≡ i
  pub within : (j : ℕ) → j < i → get_or ys j 0 < length m.held
  pub sets : (j : ℕ) → j < i → set_at m (get_or ys j 0) ≡ set_at m R ∩ on j

-- R is held, and allowed
pub record Allowed (m : Model) (R : ℕ) : Type 0 where
  pub within : R < length m.held
  pub part : set_at m R ∩ m.allowed ≡ set_at m R

-- what is within the allowed loses nothing to them
absorb : (r a x : Set) → r ∩ a ≡ r → r ∩ (a ∩ x) ≡ r ∩ x
absorb r a x e = fun_ext (λ k. assoc (r k) (a k) (x k) ∙ ap (λ (s : Set). s k && x k) e) where
  assoc : (p q t : Bool) → (p && (q && t)) ≡ ((p && q) && t)
  assoc true q t = refl
  assoc false q t = refl

-- a part of the allowed is within them
part_of : (r a x : Set) → r ≡ a ∩ x → r ∩ a ≡ r
part_of r a x e = subst (λ (s : Set). s ∩ a ≡ s) (sym e) (fun_ext (λ k. twice (a k) (x k))) where
  twice : (p q : Bool) → ((p && q) && p) ≡ (p && q)
  twice true true = refl
  twice true false = refl
  twice false q = refl

allowed_later : {m m' : Model} {R more : ℕ} → Appended m m' more → Allowed m R → Allowed m' R
allowed_later {m} {m'} {R} g h =
    let same = set_before g R h.within in
    record {
      within = omega (arith, g.len, h.within);
      part = ap₂ (λ (r a : Set). r ∩ a) same g.same.allowed ∙ h.part ∙ sym same;
    }

switched_more : {m m₁ m₂ : Model} {p q R i y : ℕ} {ys : List ℕ} (x : ℕ) → Allowed m R → Switched m R i ys → Appended m m₁ p → Appended m₁ m₂ q
    → set_at m₁ x ≡ m.allowed ∩ on i → y < length m₂.held → set_at m₂ y ≡ set_at m₁ R ∩ set_at m₁ x → Switched m₂ R (i + 1) (ys ++ y ∷ [])
switched_more {m} {m₁} {m₂} {p} {q} {R} {i} {y} {ys} x al sw g h one within two =
    let gh : Appended m m₂ (p + q) = appended_trans g h in
    let zs : List ℕ = ys ++ y ∷ [] in
    let topped : set_at m₂ R ≡ set_at m R = set_before gh R al.within in
    let new : set_at m₂ y ≡ set_at m R ∩ on i =
    two ∙ ap₂ (λ (r a : Set). r ∩ a) (set_before g R al.within) one ∙ absorb (set_at m R) m.allowed (on i) al.part in
    let last : get_or zs i 0 ≡ y = get_or_push ys y 0 i sw.len in
    let early : (j : ℕ) → j < i → get_or zs j 0 ≡ get_or ys j 0 = λ j lt. get_or_append_left ys (y ∷ []) 0 j (omega (arith, sw.len, lt)) in
    record {
      len = length_push ys y ∙ ap (λ (k : ℕ). k + 1) sw.len;
      within = below_more (λ j. get_or zs j 0 < length m₂.held) i
          (λ j lt. omega (arith, early j lt, sw.within j lt, gh.len))
          (omega (arith, last, within));
      sets = below_more (λ j. set_at m₂ (get_or zs j 0) ≡ set_at m₂ R ∩ on j) i
          (λ j lt. ap (set_at m₂) (early j lt) ∙ set_before gh (get_or ys j 0) (sw.within j lt) ∙ sw.sets j lt ∙ ap (λ (r : Set). r ∩ on j) (sym topped))
          (ap (set_at m₂) last ∙ new ∙ ap (λ (r : Set). r ∩ on i) (sym topped));
    }

err_same : {A F : Type 0} {f g : F} → ◌≡◌ {A = Result A F} (Err f) (Err g) → f ≡ g
err_same e = cc

store_not_none : {f : StoreFault} → ◌≡◌ {A = LayerFault} NoneAllowed (Store f) → ⊥
store_not_none e = let z : ◌≡◌ {A = ℕ} 0 1 = cc in omega arith

module _ {S : Type 0} (model : S → Model) (rollback : S → ℕ → S) (need : S → Op → ℕ) where
  -- what the switches come to, from R and the numbers before them
  pub record Switches (s s' : S) (R i : ℕ) (z : Numbers) : Type 0 where
    pub top : z.0 ≡ R
    pub within : R < length (model s').held
    pub same : set_at (model s') R ≡ set_at (model s) R
    pub switched : Switched (model s') R i z.1

  switches_none : {s s' : S} {R i : ℕ} {ys : List ℕ} {z : Numbers} → Allowed (model s) R → Switched (model s) R i ys → z ≡ (R, ys) → s' ≡ s → Switches s s' R i z
  switches_none {s} {s'} {R} {i} {ys} {z} al sw e same =
      subst (λ (t : S). Switches s t R i z) (sym same) (subst (λ (v : Numbers). Switches s s R i v) (sym e) (record { top = refl; within = al.within; same = refl; switched = sw }))

  pub switching_sets : (left i R : ℕ) (ys : List ℕ) (s s' : S) (z : Numbers) → Allowed (model s) R → Switched (model s) R i ys
      → Runs model rollback need (switching left i R ys) s s' (Ok z) → Switches s s' R (i + left) z
  switching_sets zero i R ys s s' z al sw run =
      let e : i ≡ i + 0 = omega arith in
      subst (λ (k : ℕ). Switches s s' R k z) e (switches_none al sw (ok_same {F = LayerFault} run.0) run.1)
  switching_sets (suc left) i R ys s s' z al sw run = ⊎_elim
      (λ f. absurd (ok_not_err f.2))
      (λ a. ⊎_elim
      (λ f. absurd (ok_not_err f.2))
      (λ b.
      let g = a.2.grown.appended in
      let h = b.2.grown.appended in
      let gh = appended_trans g h in
      let al' = allowed_later gh al in
      let sw' = switched_more a.0 al sw g h a.2.set b.2.within b.2.set in
      let w = switching_sets left (i + 1) R (ys ++ b.0 ∷ []) b.1 s' z al' sw' b.3 in
      let e : (i + 1) + left ≡ i + suc left = omega arith in
      record { top = w.top; within = w.within; same = w.same ∙ set_before gh R al.within; switched = subst (λ (k : ℕ). Switched (model s') R k z.1) e w.switched })
      a.3)
      run

  -- the switches are never refused by the rules
  switching_not_none : (left i R : ℕ) (ys : List ℕ) (s s' : S) → Runs model rollback need (switching left i R ys) s s' (Err NoneAllowed) → ⊥
  switching_not_none zero i R ys s s' run = ok_not_err (sym run.0)
  switching_not_none (suc left) i R ys s s' run = ⊎_elim
      (λ f. store_not_none (err_same {A = Numbers} f.2))
      (λ a. ⊎_elim
      (λ f. store_not_none (err_same {A = Numbers} f.2))
      (λ b. switching_not_none left (i + 1) R (ys ++ b.0 ∷ []) b.1 s' b.3)
      a.3)
      run

  -- what follows once R was worked out and found empty or not
  abbrev after : ℕ → ℕ → Bool → Steps Numbers LayerFault
  after n R is_empty = cond is_empty (fail NoneAllowed) (switching n 0 R [])

  after_accepted : (n R : ℕ) (s s' : S) (z : Numbers) (is_empty : Bool) → Runs model rollback need (after n R is_empty) s s' (Ok z)
      → (is_empty ≡ false) × Runs model rollback need (switching n 0 R []) s s' (Ok z)
  after_accepted n R s s' z true run = absurd (ok_not_err run.0)
  after_accepted n R s s' z false run = (refl, run)

  after_none : (n R : ℕ) (s s' : S) (is_empty : Bool) → Runs model rollback need (after n R is_empty) s s' (Err NoneAllowed) → is_empty ≡ true
  after_none n R s s' true run = refl
  after_none n R s s' false run = absurd (switching_not_none n 0 R [] s s' run)

  module _ (top a : ℕ) (s s' : S) (all : set_at (model s) top ≡ (model s).allowed) where
    worked : {s₁ : S} {R : ℕ} → Accepted model rollback s s₁ (need s (both top a)) (both top a) R → set_at (model s₁) R ≡ (model s).allowed ∩ set_at (model s) a
    worked h = h.set ∙ ap (λ (t : Set). t ∩ set_at (model s) a) all

    -- refused by the rules, there was no allowed configuration in set a
    pub none_left : Runs model rollback need (preparing (model s).n top a) s s' (Err NoneAllowed) → Empty ((model s).allowed ∩ set_at (model s) a)
    none_left run = ⊎_elim
        (λ f. absurd (store_not_none (err_same {A = Numbers} f.2)))
        (λ c.
        let e = after_none (model s).n c.0 c.1 s' c.3.0 c.3.3 in
        let none = subst (TellsEmpty (set_at (model c.1) c.0)) e c.3.2 in
        subst Empty (worked c.2) none)
        run

    -- accepted, what was prepared fits the store
    pub fits_after : (p : Prepared) → Consistent (model s') → p.floor ≡ size (model s') → (model s').n ≡ (model s).n
        → Runs model rollback need (preparing (model s).n top a) s s' (Ok (p.top, take (model s).n p.switches))
        → (set_at (model s') p.top ≡ (model s).allowed ∩ set_at (model s) a) × Fits (model s') p
    fits_after p ok fl en run = ⊎_elim
        (λ f. absurd (ok_not_err f.2))
        (λ c.
        let n = (model s).n in
        let s₁ = c.1 in
        let m' = model s' in
        let h = c.2 in
        let set = worked h in
        let al : Allowed (model s₁) c.0 = record {
          within = h.within;
          part = part_of (set_at (model s₁) c.0) (model s₁).allowed (set_at (model s) a) (set ∙ ap (λ (t : Set). t ∩ set_at (model s) a) (sym h.grown.appended.same.allowed));
        } in
        let none : Switched (model s₁) c.0 0 [] = record { len = refl; within = λ j lt. absurd (omega (arith, lt)); sets = λ j lt. absurd (omega (arith, lt)) } in
        let rest = after_accepted n c.0 s₁ s' _ c.3.0 c.3.3 in
        let some = subst (TellsEmpty (set_at (model s₁) c.0)) rest.0 c.3.2 in
        let w = switching_sets n 0 c.0 [] s₁ s' _ al none rest.1 in
        let topped : set_at m' p.top ≡ set_at (model s₁) c.0 = ap (set_at m') w.top ∙ w.same in
        let nth : (i : ℕ) → i < m'.n → get_or (take n p.switches) i 0 ≡ get_or p.switches i 0 = λ i lt. get_or-take n p.switches i 0 (omega (arith, en, lt)) in (
          topped ∙ set,
          record {
            top = omega (arith, w.top, w.within, fl);
            low = omega (arith, ok.floor, fl);
            high = omega (arith, fl);
            some = λ v. some (λ k. ap (λ (t : Set). t k) (sym topped) ∙ v k);
            all = omega (arith, w.switched.len, length-take n p.switches, en);
            within = λ i lt. omega (arith, nth i lt, w.switched.within i (omega (arith, en, lt)), fl);
            set = λ i lt. ap (set_at m') (sym (nth i lt)) ∙ w.switched.sets i (omega (arith, en, lt)) ∙ ap (λ (r : ℕ). set_at m' r ∩ on i) (sym w.top);
          },
        ))
        run

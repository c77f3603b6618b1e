-- Preparing, turn by turn.
use Rattle.std.proofs.Common.{◌≡◌, ℕ, suc, ◌+◌, ◌-◌, ◌<◌, ◌≤◌, Bool, true, false, List, [], length, take, set, is_some, IsErrAnd, Some, None, Ok, Err, Option, Result, sym, refl, ap, ◌∙◌, subst, inl, inr, arith, length-set}
use Rattle.std.proofs.lemmas.List.{take_more_set}
use Rattle.std.proofs.lemmas.Result.{err_from_is_err_and}
use Rattle.stores.specs.Sets.{Set, Empty, LowestIf}
use Rattle.stores.specs.Model.{Model, set_at, size}
use Rattle.stores.specs.Outcome.{Op, switch, both, Accepted, Refused, RollbackLaws, Advanced}
use Rattle.stores.specs.Steps.{Runs}
use Rattle.stores.proofs.Models.{extends_same, advanced_none, advanced_trans}
use Rattle.stores.specs.declared.fault.StoreFault.{StoreFault}
use Rattle.layers.specs.Preparing.{Numbers, switching, preparing, WorksOut}
use Rattle.layers.specs.declared.fault.LayerFault.{LayerFault}
use Rattle.layers.specs.declared.fault.LayerFault.TheVariants.{Store, NoneAllowed}
use Rattle.layers.specs.declared.preparation.Prepared.{Prepared}

module _ {S : Type 0} (model : S → Model) (rollback : S → ℕ → S) (need : S → Op → ℕ) where
  -- R was worked out, and is not empty
  pub record Begun (s s₁ : S) (top a R : ℕ) : Type 0 where
    pub first : Accepted model rollback s s₁ (need s (both top a)) (both top a) R
    pub some : Empty (set_at (model s₁) R) → ⊥

  -- the switches below i are done, and what the rest of the steps comes to is what all of them come to
  pub record Turn (n R : ℕ) (s₁ : S) (i : ℕ) (sw : List ℕ) (t : S) : Type 0 where
    pub advanced : Advanced model rollback s₁ t
    pub len : length sw ≡ 24
    pub leads : (t' : S) (r : Result Numbers LayerFault) → Runs model rollback need (switching (n - i) i R (take i sw)) t t' r → Runs model rollback need (switching n 0 R []) s₁ t' r

some_of : (a : Set) (o : Option ℕ) → is_some o ≡ true → LowestIf a o → Empty a → ⊥
some_of a (Some k) is low none = let e : ◌≡◌ {A = Bool} true false = sym low.within ∙ none k in let z : ◌≡◌ {A = ℕ} 0 1 = cc in omega arith
some_of a None is low none = let z : ◌≡◌ {A = ℕ} 0 1 = cc in omega arith

none_of : (a : Set) (o : Option ℕ) → is_some o ≡ false → LowestIf a o → Empty a
none_of a (Some k) is low = absurd (let z : ◌≡◌ {A = ℕ} 0 1 = cc in omega arith)
none_of a None is low = low

module _ {S : Type 0} {model : S → Model} {rollback : S → ℕ → S} (laws : RollbackLaws model rollback) (need : S → Op → ℕ) where
  accepted_advanced : {s s' : S} {op : Op} {r : ℕ} → Accepted model rollback s s' (need s op) op r → Advanced model rollback s s'
  accepted_advanced h = record { more = _; grown = h.grown }

  refused_advanced : {s s' : S} {op : Op} {f : StoreFault} → Refused model s s' (need s op) op f → Advanced model rollback s s'
  refused_advanced h = record { more = 0; grown = extends_same laws h.same }

  -- a refusal as the code hands it on
  handed_on : {s s' : S} {top a : ℕ} {r : Result Prepared LayerFault} {f : StoreFault} → IsErrAnd r (λ (y : LayerFault). y ≡ Store f) → Advanced model rollback s s'
      → Runs model rollback need (preparing (model s).n top a) s s' (Err (Store f)) → WorksOut model rollback need s s' top a r
  handed_on {s} {s'} {top} {a} {r} {f} e g h =
      let p = err_from_is_err_and r e in
      subst (WorksOut model rollback need s s' top a) (sym (p.1 ∙ ap Err p.2)) (record { advanced = g; runs = h; floor = tt })

  -- the first operation is refused
  pub first_refused : {s s' : S} {top a : ℕ} {r : Result Prepared LayerFault} {f : StoreFault} → IsErrAnd r (λ (y : LayerFault). y ≡ Store f)
      → Refused model s s' (need s (both top a)) (both top a) f → WorksOut model rollback need s s' top a r
  first_refused {f = f} e h = handed_on e (refused_advanced h) (inl (f, record { due = h.due; same = refl }, refl, h.same))

  -- the lowest configuration of R was found
  pub begun_some : {s s₁ : S} {top a R : ℕ} (o : Option ℕ) → Accepted model rollback s s₁ (need s (both top a)) (both top a) R → is_some o ≡ true → LowestIf (set_at (model s₁) R) o
      → Begun model rollback need s s₁ top a R
  begun_some {s₁ = s₁} {R = R} o h is low = record { first = h; some = some_of (set_at (model s₁) R) o is low }

  -- it was looked for and not found
  pub none_allowed : {s s₁ : S} {top a R : ℕ} (o : Option ℕ) → Accepted model rollback s s₁ (need s (both top a)) (both top a) R → is_some o ≡ false → LowestIf (set_at (model s₁) R) o
      → WorksOut model rollback need s s₁ top a (Err NoneAllowed)
  none_allowed {s₁ = s₁} {R = R} o h is low =
      record { advanced = accepted_advanced h; runs = inr (R, s₁, h, (true, h.within, none_of (set_at (model s₁) R) o is low, (refl, refl))); floor = tt }

  -- R is not empty, and the switches follow
  runs_begun : {s s₁ s₂ : S} {n top a R : ℕ} {r : Result Numbers LayerFault} → Begun model rollback need s s₁ top a R → n ≡ (model s₁).n
      → Runs model rollback need (switching n 0 R []) s₁ s₂ r → Runs model rollback need (preparing (model s).n top a) s s₂ r
  runs_begun {s} {s₁} {s₂} {n} {top} {a} {R} {r} b e h =
      let e' : n ≡ (model s).n = e ∙ b.first.grown.appended.same.n in
      inr (R, s₁, b.first, (false, b.first.within, b.some, subst (λ (k : ℕ). Runs model rollback need (switching k 0 R []) s₁ s₂ r) e' h))

  pub turn_first : {n R : ℕ} {s₁ : S} {sw : List ℕ} → length sw ≡ 24 → Turn model rollback need n R s₁ 0 sw s₁
  turn_first {n} {R} {s₁} len =
      let e : n - 0 ≡ n = omega arith in
      record { advanced = advanced_none laws; len = len; leads = λ t' r h. subst (λ (k : ℕ). Runs model rollback need (switching k 0 R []) s₁ t' r) e h }

  -- one switch is next
  opened : {n R i : ℕ} {s₁ t : S} {sw : List ℕ} → Turn model rollback need n R s₁ i sw t → i < n → (t' : S) (r : Result Numbers LayerFault)
      → Runs model rollback need (switching (suc (n - (i + 1))) i R (take i sw)) t t' r → Runs model rollback need (switching n 0 R []) s₁ t' r
  opened {n} {R} {i} {s₁} {t} {sw} turn lt t' r run =
      let e : suc (n - (i + 1)) ≡ n - i = omega arith in
      turn.leads t' r (subst (λ (k : ℕ). Runs model rollback need (switching k i R (take i sw)) t t' r) e run)

  pub turn_more : {n R i x y : ℕ} {s₁ t t₁ t₂ : S} {sw : List ℕ} → Turn model rollback need n R s₁ i sw t → i < n → i < 24
      → Accepted model rollback t t₁ (need t (switch i)) (switch i) x → Accepted model rollback t₁ t₂ (need t₁ (both R x)) (both R x) y
      → Turn model rollback need n R s₁ (i + 1) (set sw i y) t₂
  turn_more {n} {R} {i} {x} {y} {s₁} {t} {t₁} {t₂} {sw} turn lt few one two =
      let within : i < length sw = omega (arith, turn.len) in
      record {
        advanced = advanced_trans laws turn.advanced (advanced_trans laws (accepted_advanced one) (accepted_advanced two));
        len = length-set sw i y ∙ turn.len;
        leads = λ t' r h. opened turn lt t' r (inr (
          x,
          t₁,
          one,
          inr (
            y,
            t₂,
            two,
            subst (λ (ys : List ℕ). Runs model rollback need (switching (n - (i + 1)) (i + 1) R ys) t₂ t' r) (take_more_set sw i y within) h,
          ),
        ));
      }

  pub switch_refused : {s s₁ t t₁ : S} {n top a R i : ℕ} {sw : List ℕ} {r : Result Prepared LayerFault} {f : StoreFault} → IsErrAnd r (λ (y : LayerFault). y ≡ Store f)
      → Begun model rollback need s s₁ top a R → n ≡ (model s₁).n → Turn model rollback need n R s₁ i sw t → i < n
      → Refused model t t₁ (need t (switch i)) (switch i) f → WorksOut model rollback need s t₁ top a r
  switch_refused {t₁ = t₁} {f = f} e b en turn lt h =
      handed_on e
      (advanced_trans laws (accepted_advanced b.first) (advanced_trans laws turn.advanced (refused_advanced h)))
      (runs_begun b en (opened turn lt t₁ (Err (Store f)) (inl (f, record { due = h.due; same = refl }, refl, h.same))))

  pub both_refused : {s s₁ t t₁ t₂ : S} {n top a R i x : ℕ} {sw : List ℕ} {r : Result Prepared LayerFault} {f : StoreFault} → IsErrAnd r (λ (y : LayerFault). y ≡ Store f)
      → Begun model rollback need s s₁ top a R → n ≡ (model s₁).n → Turn model rollback need n R s₁ i sw t → i < n
      → Accepted model rollback t t₁ (need t (switch i)) (switch i) x → Refused model t₁ t₂ (need t₁ (both R x)) (both R x) f → WorksOut model rollback need s t₂ top a r
  both_refused {t₁ = t₁} {t₂} {x = x} {f = f} e b en turn lt one h =
      handed_on e
      (advanced_trans laws (accepted_advanced b.first)
      (advanced_trans laws turn.advanced (advanced_trans laws (accepted_advanced one) (refused_advanced h))))
      (runs_begun b en (opened turn lt t₂ (Err (Store f)) (inr (x, t₁, one, inl (f, record { due = h.due; same = refl }, refl, h.same)))))

  pub turn_last : {s s₁ t : S} {n top a R i fl : ℕ} {sw : List ℕ} → Begun model rollback need s s₁ top a R → n ≡ (model s₁).n → Turn model rollback need n R s₁ i sw t
      → n ≤ i → i ≤ n → fl ≡ size (model t) → WorksOut model rollback need s t top a (Ok (record { top = R; floor = fl; switches = sw }))
  turn_last {s} {s₁} {t} {n} {top} {a} {R} {i} {fl} {sw} b en turn le ge is =
      let none : 0 ≡ n - i = omega arith in
      let all : i ≡ (model s).n = omega (arith, en, b.first.grown.appended.same.n) in
      let r : Result Numbers LayerFault = Ok (R, take (model s).n sw) in
      let run : Runs model rollback need (switching 0 i R (take i sw)) t t r = (ap (λ (k : ℕ). Ok (R, take k sw)) (sym all), refl) in
      record {
        advanced = advanced_trans laws (accepted_advanced b.first) turn.advanced;
        runs = runs_begun b en (turn.leads t r (subst (λ (k : ℕ). Runs model rollback need (switching k i R (take i sw)) t t r) none run));
        floor = is;
      }

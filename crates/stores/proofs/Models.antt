-- Models that grow and are cut.
use Rattle.std.proofs.Common.{◌≡◌, ℕ, ◌+◌, ◌<◌, ◌≤◌, List, length, get_or, take, Ok, Err, Result, sym, refl, ap, ◌∙◌, subst, arith, take_all, get_or-take, take-take}
use Rattle.stores.specs.Sets.{Set, empty}
use Rattle.stores.specs.Model.{Model, set_at, kept, Unmoved, Appended, Consistent}
use Rattle.stores.specs.Outcome.{Op, Extends, RollbackLaws, CutBack, Advanced, Outcome}
use Rattle.stores.specs.declared.fault.StoreFault.{StoreFault}

pub unmoved_refl : (m : Model) → Unmoved m m
unmoved_refl m = record { n = refl; allowed = refl; floor = refl; capacity = refl }

pub unmoved_trans : {a b c : Model} → Unmoved a b → Unmoved b c → Unmoved a c
unmoved_trans p q = record { n = q.n ∙ p.n; allowed = q.allowed ∙ p.allowed; floor = q.floor ∙ p.floor; capacity = q.capacity ∙ p.capacity }

-- earlier numbers keep their sets
pub set_before : {m m' : Model} {more : ℕ} → Appended m m' more → (j : ℕ) → j < length m.held → set_at m' j ≡ set_at m j
set_before {m} {m'} g j h = sym (get_or-take (length m.held) m'.held j empty h) ∙ ap (λ (l : List Set). get_or l j empty) g.before

pub appended_trans : {a b c : Model} {p q : ℕ} → Appended a b p → Appended b c q → Appended a c (p + q)
appended_trans {a} {b} {c} {p} {q} g h =
    let le : length a.held ≤ length b.held = omega arith in
    record {
      same = unmoved_trans g.same h.same;
      before = sym (take-take (length a.held) (length b.held) c.held le) ∙ ap (take (length a.held)) h.before ∙ g.before;
      len = omega arith;
    }

pub appended_none : (m : Model) → Appended m m 0
appended_none m = record { same = unmoved_refl m; before = take_all (length m.held) m.held (omega arith); len = omega arith }

module _ {S : Type 0} {model : S → Model} {rollback : S → ℕ → S} (laws : RollbackLaws model rollback) where
  pub extends_none : {a : S} → Extends model rollback a a 0
  extends_none {a} = record { appended = appended_none (model a); undo = laws.nothing a }

  pub extends_same : {a b : S} → b ≡ a → Extends model rollback a b 0
  extends_same {a} {b} e = subst (λ (x : S). Extends model rollback a x 0) (sym e) extends_none

  pub extends_trans : {a b c : S} {p q : ℕ} → Extends model rollback a b p → Extends model rollback b c q → Extends model rollback a c (p + q)
  extends_trans {a} {b} {c} {p} {q} g h =
      let le : length (model a).held ≤ length (model b).held = omega (arith, g.appended.len) in
      record {
        appended = appended_trans g.appended h.appended;
        undo = sym (laws.twice c (length (model b).held) (length (model a).held) le) ∙ ap (λ (s : S). rollback s (length (model a).held)) h.undo ∙ g.undo;
      }

  -- cutting back to where a growth began gives back the value
  pub cut_restores : {s s₁ s₂ : S} {more : ℕ} (to : ℕ) → Consistent (model s) → Extends model rollback s s₁ more → to ≡ length (model s).held → CutBack model rollback s₁ s₂ to → s₂ ≡ s
  cut_restores {s} {s₁} {s₂} to ok g is c =
      let m = g.appended in
      let e : kept (model s₁) to ≡ length (model s).held = omega (arith, m.len, m.same.floor, ok.floor, is) in
      c.value ∙ ap (rollback s₁) e ∙ g.undo

  pub advanced_none : {a : S} → Advanced model rollback a a
  advanced_none {a} = record { more = 0; grown = extends_none }

  pub advanced_trans : {a b c : S} → Advanced model rollback a b → Advanced model rollback b c → Advanced model rollback a c
  advanced_trans p q = record { more = p.more + q.more; grown = extends_trans p.grown q.grown }

  -- any operation, accepted or refused
  pub advanced_op : {a b : S} (need : S → Op → ℕ) (op : Op) (r : Result ℕ StoreFault) → Outcome model rollback need a b op r → Advanced model rollback a b
  advanced_op need op (Ok x) h = record { more = _; grown = h.grown }
  advanced_op need op (Err f) h = record { more = 0; grown = extends_same h.same }

  pub release_restores : {s s₁ s₂ : S} (to : ℕ) → Consistent (model s) → Advanced model rollback s s₁ → to ≡ length (model s).held → CutBack model rollback s₁ s₂ to → s₂ ≡ s
  release_restores to ok g is c = cut_restores to ok g.grown is c

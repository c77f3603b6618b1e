-- Runs of steps, one after another.
use Rattle.std.proofs.Common.{◌≡◌, ℕ, ◌+◌, true, false, is_some, Some, None, Ok, Err, Option, Result, sym, refl, ap, ◌∙◌, subst, inl, inr, ⊎_elim, arith}
use mathlib.Core.Path.{fun_ext}
use Rattle.stores.specs.Sets.{Set, Empty, LowestIf}
use Rattle.stores.specs.Model.{Model, Appended}
use Rattle.stores.specs.Outcome.{Op, Accepted, Refused}
use Rattle.stores.specs.Steps.{Steps, done, fail, ask, test, then, blamed, asked, Runs}
use Rattle.stores.proofs.Models.{appended_none, appended_trans}
use Rattle.stores.specs.declared.fault.StoreFault.{StoreFault}

pub ok_same : {A F : Type 0} {a b : A} → ◌≡◌ {A = Result A F} (Ok a) (Ok b) → a ≡ b
ok_same e = cc

pub err_same : {A F : Type 0} {f g : F} → ◌≡◌ {A = Result A F} (Err f) (Err g) → f ≡ g
err_same e = cc

pub ok_not_err : {A F : Type 0} {a : A} {f : F} → ◌≡◌ {A = Result A F} (Ok a) (Err f) → ⊥
ok_not_err e = let z : ◌≡◌ {A = ℕ} 0 1 = cc in omega arith

-- what `find` tells of a set
pub found_none : (a : Set) (o : Option ℕ) → is_some o ≡ false → LowestIf a o → Empty a
found_none a None e l = l
found_none a (Some k) e l = let z : ◌≡◌ {A = ℕ} 0 1 = cc in absurd (omega arith)

pub found_some : (a : Set) (o : Option ℕ) → is_some o ≡ true → LowestIf a o → Empty a → ⊥
found_some a None e l v = let z : ◌≡◌ {A = ℕ} 0 1 = cc in omega arith
found_some a (Some k) e l v = let t : true ≡ false = sym l.within ∙ v k in let z : ◌≡◌ {A = ℕ} 0 1 = cc in omega arith

-- steps may be grouped either way
pub then_assoc : {A B C F : Type 0} (p : Steps A F) (k : A → Steps B F) (j : B → Steps C F) → then (then p k) j ≡ then p (λ a. then (k a) j)
then_assoc (done a) k j = refl
then_assoc (fail f) k j = refl
then_assoc (ask op blame next) k j = ap (ask op blame) (fun_ext (λ c. then_assoc (next c) k j))
then_assoc (test b next) k j = ap (test b) (fun_ext (λ c. then_assoc (next c) k j))

module _ {S : Type 0} (model : S → Model) (rollback : S → ℕ → S) (need : S → Op → ℕ) where
  -- p answered, and what follows went on from there
  pub runs_then : {A B F : Type 0} (p : Steps A F) (k : A → Steps B F) (s s₁ s₂ : S) (a : A) (r : Result B F)
      → Runs model rollback need p s s₁ (Ok a) → Runs model rollback need (k a) s₁ s₂ r → Runs model rollback need (then p k) s s₂ r
  runs_then {A} {B} {F} (done b) k s s₁ s₂ a r h j =
      subst (λ (z : A). Runs model rollback need (k z) s s₂ r) (ok_same {F = F} h.0) (subst (λ (z : S). Runs model rollback need (k a) z s₂ r) h.1 j)
  runs_then {F = F} (fail f) k s s₁ s₂ a r h j = absurd (ok_not_err h.0)
  runs_then (ask op blame next) k s s₁ s₂ a r h j = ⊎_elim
      (λ f. absurd (ok_not_err f.2))
      (λ c. inr (c.0, c.1, c.2, runs_then (next c.0) k c.1 s₁ s₂ a r c.3 j))
      h
  runs_then (test b next) k s s₁ s₂ a r h j = (h.0, h.1, h.2, runs_then (next h.0) k s s₁ s₂ a r h.3 j)

  -- p was refused, and so is the whole
  pub runs_refused : {A B F : Type 0} (p : Steps A F) (k : A → Steps B F) (s s₁ : S) (f : F)
      → Runs model rollback need p s s₁ (Err f) → Runs model rollback need (then p k) s s₁ (Err f)
  runs_refused (done b) k s s₁ f h = absurd (ok_not_err (sym h.0))
  runs_refused {A} {B} {F} (fail g) k s s₁ f h = (err_moved h.0, h.1)
    where
      err_moved : ◌≡◌ {A = Result A F} (Err f) (Err g) → ◌≡◌ {A = Result B F} (Err f) (Err g)
      err_moved e = cc
  runs_refused {A} {B} {F} (ask op blame next) k s s₁ f h = ⊎_elim
      (λ x. inl (x.0, x.1, err_moved x.0 x.2, x.3))
      (λ c. inr (c.0, c.1, c.2, runs_refused (next c.0) k c.1 s₁ f c.3))
      h
    where
      err_moved : (g : StoreFault) → ◌≡◌ {A = Result A F} (Err f) (Err (blame g)) → ◌≡◌ {A = Result B F} (Err f) (Err (blame g))
      err_moved g e = cc
  runs_refused (test b next) k s s₁ f h = (h.0, h.1, h.2, runs_refused (next h.0) k s s₁ f h.3)

  -- an accepted run of p and then k, taken apart
  pub runs_split : {A B F : Type 0} (p : Steps A F) (k : A → Steps B F) (s s₂ : S) (b : B) → Runs model rollback need (then p k) s s₂ (Ok b)
      → (a : A) × (s₁ : S) × Runs model rollback need p s s₁ (Ok a) × Runs model rollback need (k a) s₁ s₂ (Ok b)
  runs_split (done a) k s s₂ b h = (a, s, (refl, refl), h)
  runs_split (fail f) k s s₂ b h = absurd (ok_not_err h.0)
  runs_split (ask op blame next) k s s₂ b h = ⊎_elim
      (λ f. absurd (ok_not_err f.2))
      (λ c. let r = runs_split (next c.0) k c.1 s₂ b c.3 in (r.0, r.1, inr (c.0, c.1, c.2, r.2), r.3))
      h
  runs_split (test a next) k s s₂ b h =
      let r = runs_split (next h.0) k s s₂ b h.3 in (r.0, r.1, (h.0, h.1, h.2, r.2), r.3)

  -- an accepted run only appends
  pub runs_appended : {A F : Type 0} (p : Steps A F) (s s' : S) (a : A) → Runs model rollback need p s s' (Ok a) → (n : ℕ) × Appended (model s) (model s') n
  runs_appended (done b) s s' a h = (0, subst (λ (z : S). Appended (model s) (model z) 0) (sym h.1) (appended_none (model s)))
  runs_appended (fail f) s s' a h = absurd (ok_not_err h.0)
  runs_appended (ask op blame next) s s' a h = ⊎_elim
      (λ f. absurd (ok_not_err f.2))
      (λ c. let r = runs_appended (next c.0) c.1 s' a c.3 in (need s op + r.0, appended_trans c.2.grown.appended r.1))
      h
  runs_appended (test b next) s s' a h = runs_appended (next h.0) s s' a h.3

  -- one operation
  pub runs_accepted : {A F : Type 0} (op : Op) (blame : StoreFault → F) (next : ℕ → Steps A F) (s s₁ s₂ : S) (c : ℕ) (r : Result A F)
      → Accepted model rollback s s₁ (need s op) op c → Runs model rollback need (next c) s₁ s₂ r → Runs model rollback need (ask op blame next) s s₂ r
  runs_accepted op blame next s s₁ s₂ c r h j = inr (c, s₁, h, j)

  pub runs_ask_refused : {A F : Type 0} (op : Op) (blame : StoreFault → F) (next : ℕ → Steps A F) (s s₁ : S) (f : StoreFault)
      → Refused model s s₁ (need s op) op f → Runs model rollback need (ask op blame next) s s₁ (Err (blame f))
  runs_ask_refused op blame next s s₁ f h = inl (f, record { due = h.due; same = refl }, refl, h.same)

  pub runs_asked : {F : Type 0} (op : Op) (blame : StoreFault → F) (s s₁ : S) (c : ℕ) → Accepted model rollback s s₁ (need s op) op c → Runs model rollback need (asked op blame) s s₁ (Ok c)
  runs_asked op blame s s₁ c h = inr (c, s₁, h, (refl, refl))

  pub asked_accepted : {F : Type 0} (op : Op) (blame : StoreFault → F) (s s' : S) (c : ℕ) → Runs model rollback need (asked op blame) s s' (Ok c) → Accepted model rollback s s' (need s op) op c
  asked_accepted {F} op blame s s' c h = ⊎_elim
      (λ f. absurd (ok_not_err f.2))
      (λ a. subst (λ (x : ℕ). Accepted model rollback s s' (need s op) op x) (sym (ok_same {F = F} a.3.0)) (subst (λ (z : S). Accepted model rollback s z (need s op) op a.0) (sym a.3.1) a.2))
      h

  -- a refusal told otherwise
  pub runs_blamed_ok : {A F G : Type 0} (g : F → G) (p : Steps A F) (s s' : S) (a : A) → Runs model rollback need p s s' (Ok a) → Runs model rollback need (blamed g p) s s' (Ok a)
  runs_blamed_ok g (done b) s s' a h = (ap Ok (ok_same h.0), h.1)
  runs_blamed_ok g (fail f) s s' a h = absurd (ok_not_err h.0)
  runs_blamed_ok g (ask op blame next) s s' a h = ⊎_elim
      (λ f. absurd (ok_not_err f.2))
      (λ c. inr (c.0, c.1, c.2, runs_blamed_ok g (next c.0) c.1 s' a c.3))
      h
  runs_blamed_ok g (test b next) s s' a h = (h.0, h.1, h.2, runs_blamed_ok g (next h.0) s s' a h.3)

  pub runs_blamed_err : {A F G : Type 0} (g : F → G) (p : Steps A F) (s s' : S) (f : F) → Runs model rollback need p s s' (Err f) → Runs model rollback need (blamed g p) s s' (Err (g f))
  runs_blamed_err g (done b) s s' f h = absurd (ok_not_err (sym h.0))
  runs_blamed_err {A} {F} g (fail e) s s' f h = (ap Err (ap g (err_same {A = A} h.0)), h.1)
  runs_blamed_err {A} {F} g (ask op blame next) s s' f h = ⊎_elim
      (λ x. inl (x.0, x.1, ap Err (ap g (err_same {A = A} x.2)), x.3))
      (λ c. inr (c.0, c.1, c.2, runs_blamed_err g (next c.0) c.1 s' f c.3))
      h
  runs_blamed_err g (test b next) s s' f h = (h.0, h.1, h.2, runs_blamed_err g (next h.0) s s' f h.3)

  pub runs_unblamed : {A F G : Type 0} (g : F → G) (p : Steps A F) (s s' : S) (a : A) → Runs model rollback need (blamed g p) s s' (Ok a) → Runs model rollback need p s s' (Ok a)
  runs_unblamed {A} {F} {G} g (done b) s s' a h = (ap Ok (ok_same {F = G} h.0), h.1)
  runs_unblamed g (fail f) s s' a h = absurd (ok_not_err h.0)
  runs_unblamed g (ask op blame next) s s' a h = ⊎_elim
      (λ f. absurd (ok_not_err f.2))
      (λ c. inr (c.0, c.1, c.2, runs_unblamed g (next c.0) c.1 s' a c.3))
      h
  runs_unblamed g (test b next) s s' a h = (h.0, h.1, h.2, runs_unblamed g (next h.0) s s' a h.3)

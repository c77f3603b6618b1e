-- The loop over the switches.
use Rattle.std.proofs.Common.{◌≡◌, ℕ, zero, suc, ◌+◌, ◌-◌, ◌<◌, List, [], ◌∷◌, ◌++◌, Ok, Err, Result, sym, refl, ap, ◌∙◌, subst, inl, inr, arith}
use Rattle.faults.specs.declared.Refusal.{Refusal}
use Rattle.stores.specs.Model.{Model}
use Rattle.stores.specs.Outcome.{Op, switch, Outcome}
use Rattle.stores.specs.Steps.{Steps, done, ask, then, Runs}
use Rattle.stores.specs.Faults.{described as store}
use Rattle.stores.specs.declared.fault.StoreFault.{StoreFault}
use Rattle.stores.proofs.Runs.{ok_same, ok_not_err, err_same, runs_then, runs_refused}
use Rattle.rulelines.specs.declared.fault.RuleFault.{RuleFault}
use Rattle.rulelines.specs.Faults.{described}
use Rattle.rules.specs.Ruled.{switching}
use Rattle.rules.specs.Turns.{blamed_on}
use mathlib.Core.Path.{fun_ext}

-- what follows the switches, after them
pub switching_then : {A : Type 0} (n i : ℕ) (ns : List ℕ) (k : List ℕ → Steps A Refusal) → then (switching n i ns done) k ≡ switching n i ns k
switching_then zero i ns k = refl
switching_then (suc n) i ns k = ap (ask (switch i) (λ f. store f 0)) (fun_ext (λ c. switching_then n (i + 1) (ns ++ c ∷ []) k))

module _ {S : Type 0} (model : S → Model) (rollback : S → ℕ → S) (need : S → Op → ℕ) (n : ℕ) (s₀ : S) where
  -- what the switches from i on do from here, all do from the start
  abbrev pub GoesOn : ℕ → List ℕ → S → Type 0
  GoesOn i ns s =
      (s' : S) (r : Result (List ℕ) Refusal) → Runs model rollback need (switching (n - i) i ns done) s s' r → Runs model rollback need (switching n 0 [] done) s₀ s' r

  one : (i : ℕ) (ns : List ℕ) (s s' : S) (r : Result (List ℕ) Refusal) → i < n
      → Runs model rollback need (ask (switch i) (λ f. store f 0) (λ c. switching (n - (i + 1)) (i + 1) (ns ++ c ∷ []) done)) s s' r → Runs model rollback need (switching (n - i) i ns done) s s' r
  one i ns s s' r lt h = subst (λ (j : ℕ). Runs model rollback need (switching j i ns done) s s' r) (let z : suc (n - (i + 1)) ≡ n - i = omega arith in z) h

  pub goes_more : (i c : ℕ) (vs ws : List ℕ) (s s₁ : S) (q : Result ℕ StoreFault) → i < n → GoesOn i vs s → Outcome model rollback need s s₁ (switch i) q
      → ◌≡◌ {A = Result ℕ RuleFault} (Ok c) (blamed_on 0 q) → ws ≡ vs ++ c ∷ [] → GoesOn (i + 1) ws s₁
  goes_more i c vs ws s s₁ (Err f) lt go o e w s' r h = absurd (ok_not_err e)
  goes_more i c vs ws s s₁ (Ok d) lt go o e w s' r h =
      let h' = subst (λ (l : List ℕ). Runs model rollback need (switching (n - (i + 1)) (i + 1) l done) s₁ s' r) (w ∙ ap (λ (x : ℕ). vs ++ x ∷ []) (ok_same {F = RuleFault} e)) h in
      go s' r (one i vs s s' r lt (inr (d, s₁, o, h')))

  pub goes_refused : (i : ℕ) (g : RuleFault) (ns : List ℕ) (s s₁ : S) (q : Result ℕ StoreFault) → i < n → GoesOn i ns s → Outcome model rollback need s s₁ (switch i) q
      → ◌≡◌ {A = Result ℕ RuleFault} (Err g) (blamed_on 0 q) → Runs model rollback need (switching n 0 [] done) s₀ s₁ (Err (described g))
  goes_refused i g ns s s₁ (Ok d) lt go o e = absurd (ok_not_err (sym e))
  goes_refused i g ns s s₁ (Err f) lt go o e =
      go s₁ (Err (described g)) (one i ns s s₁ (Err (described g)) lt (inl (f, record { due = o.due; same = refl }, ap Err (ap described (err_same {A = ℕ} e)), o.same)))

module _ {S A : Type 0} (model : S → Model) (rollback : S → ℕ → S) (need : S → Op → ℕ) (n : ℕ) (k : List ℕ → Steps A Refusal) where
  by_then : (s s' : S) (r : Result A Refusal) → Runs model rollback need (then (switching n 0 [] done) k) s s' r → Runs model rollback need (switching n 0 [] k) s s' r
  by_then s s' r h = subst (λ (p : Steps A Refusal). Runs model rollback need p s s' r) (switching_then n 0 [] k) h

  pub switched_refused : (s s₁ : S) (f : Refusal) → Runs model rollback need (switching n 0 [] done) s s₁ (Err f) → Runs model rollback need (switching n 0 [] k) s s₁ (Err f)
  switched_refused s s₁ f h = by_then s s₁ (Err f) (runs_refused model rollback need (switching n 0 [] done) k s s₁ f h)

  pub switched : (ns ms : List ℕ) (s s₁ s₂ : S) (r : Result A Refusal) → ms ≡ ns → Runs model rollback need (switching n 0 [] done) s s₁ (Ok ns) → Runs model rollback need (k ms) s₁ s₂ r
      → Runs model rollback need (switching n 0 [] k) s s₂ r
  switched ns ms s s₁ s₂ r e h j =
      by_then s s₂ r (runs_then model rollback need (switching n 0 [] done) k s s₁ s₂ ns r h (subst (λ (x : List ℕ). Runs model rollback need (k x) s₁ s₂ r) e j))

-- The ways that applying a rule can go.
use Rattle.std.proofs.Common.{◌≡◌, ℕ, Bool, true, false, cond, Ok, Err, Result, sym, refl, ◌∙◌, subst, inl, inr}
use Rattle.faults.specs.declared.Refusal.{Refusal}
use Rattle.stores.specs.Model.{Model}
use Rattle.stores.specs.Outcome.{Op, both, Outcome}
use Rattle.stores.specs.Steps.{fail, ask, then, blamed, Runs}
use Rattle.stores.specs.Faults.{described as store}
use Rattle.stores.specs.declared.fault.StoreFault.{StoreFault}
use Rattle.stores.proofs.Runs.{ok_same, ok_not_err, runs_then, runs_refused, runs_blamed_ok, runs_blamed_err}
use Rattle.expressions.specs.Grammar.{Expr}
use Rattle.expressions.specs.Conditions.{condition_at}
use Rattle.expressions.specs.Placed.{read_in}
use Rattle.expressions.specs.declared.operand.Operand.{Operand}
use Rattle.expressions.specs.Faults.{described as expression}
use Rattle.expressions.specs.declared.fault.ExpressionFault.{ExpressionFault}
use Rattle.evaluation.specs.Worked.{worked}
use Rattle.evaluation.specs.declared.Evaluator.{Evaluator}
use Rattle.rules.specs.declared.entries.Switches.{Switches}
use Rattle.rulelines.specs.declared.fault.RuleFault.{RuleFault}
use Rattle.rulelines.specs.declared.fault.RuleFault.TheVariants.{Store, Expression, Undeclared}
use Rattle.rulelines.specs.Faults.{declarations}
use Rattle.rules.specs.Ruled.{Answer, known, rule}
use Rattle.rules.specs.Read.{names, lookup}
use Rattle.rules.specs.Turns.{blamed_on, NextSteps, Goes}

module _ {S : Type 0} (model : S → Model) (rollback : S → ℕ → S) (need : S → Op → ℕ) (rd : Evaluator Switches) (acc : ℕ) (o : Operand) where
  abbrev l : ℕ
  l = o.number

  abbrev z : Result Expr Refusal
  z = read_in o.line.now o.number (condition_at o.comments o.line.now o.from)

  abbrev Applied : S → S → Result ℕ RuleFault → Type 0
  Applied s s₁ r = Goes model rollback need (λ next. rule (names rd) (lookup rd) rd.known.none rd.known.top acc l next z) s s₁ r

  by : (s s₁ : S) (a b : Result ℕ RuleFault) → a ≡ b → Applied s s₁ b → Applied s s₁ a
  by s s₁ a b e h = subst (λ (x : Result ℕ RuleFault). Applied s s₁ x) (sym e) h

  -- the line has no condition
  pub unread : (f : ExpressionFault) (s : S) (r : Result ℕ RuleFault) → z ≡ Err (expression f) → r ≡ Err (Expression f) → Applied s s r
  unread f s r e q = by s s r (Err (Expression f)) q (λ next. subst (λ (y : Result Expr Refusal). Runs model rollback need (rule (names rd) (lookup rd) rd.known.none rd.known.top acc l next y) s s (Err (expression f))) (sym e) (refl, refl))

  -- the steps of a rule whose names are tested
  tested : (e : Expr) (b : Bool) (next : NextSteps) (s s₁ : S) (r : Result Answer Refusal) → z ≡ Ok e → known (names rd) e ≡ b
      → Runs model rollback need (cond b (then (blamed (λ f. store f l) (worked e (lookup rd) rd.known.none rd.known.top)) (λ c. ask (both acc c) (λ f. store f l) next)) (fail (declarations l))) s s₁ r
      → Runs model rollback need (rule (names rd) (lookup rd) rd.known.none rd.known.top acc l next z) s s₁ r
  tested e b next s s₁ r q k h =
      subst (λ (y : Result Expr Refusal). Runs model rollback need (rule (names rd) (lookup rd) rd.known.none rd.known.top acc l next y) s s₁ r) (sym q)
      (subst (λ (t : Bool). Runs model rollback need (cond t (then (blamed (λ f. store f l) (worked e (lookup rd) rd.known.none rd.known.top)) (λ c. ask (both acc c) (λ f. store f l) next)) (fail (declarations l))) s s₁ r) (sym k) h)

  pub undeclared : (e : Expr) (s : S) → z ≡ Ok e → known (names rd) e ≡ false → Applied s s (Err (Undeclared l))
  undeclared e s q k next = tested e false next s s (Err (declarations l)) q k (refl, refl)

  pub unworked : (e : Expr) (s s₁ : S) (a : Result ℕ StoreFault) (g : RuleFault) (r : Result ℕ RuleFault) → z ≡ Ok e → known (names rd) e ≡ true
      → Runs model rollback need (worked e (lookup rd) rd.known.none rd.known.top) s s₁ a → ◌≡◌ {A = Result ℕ RuleFault} (Err g) (blamed_on l a) → r ≡ Err g → Applied s s₁ r
  unworked e s s₁ (Ok c) g r q k h t w = absurd (ok_not_err (sym t))
  unworked e s s₁ (Err f) g r q k h t w = by s s₁ r (Err (Store f l)) (w ∙ t) (λ next.
      tested e true next s s₁ (Err (store f l)) q k
      (runs_refused model rollback need (blamed (λ f. store f l) (worked e (lookup rd) rd.known.none rd.known.top)) (λ c. ask (both acc c) (λ f. store f l) next) s s₁ (store f l)
      (runs_blamed_err model rollback need (λ f. store f l) (worked e (lookup rd) rd.known.none rd.known.top) s s₁ f h)))

  pub met : (e : Expr) (s s₁ s₂ : S) (a : Result ℕ StoreFault) (c : ℕ) (b : Result ℕ StoreFault) (r : Result ℕ RuleFault) → z ≡ Ok e → known (names rd) e ≡ true
      → Runs model rollback need (worked e (lookup rd) rd.known.none rd.known.top) s s₁ a → ◌≡◌ {A = Result ℕ RuleFault} (Ok c) (blamed_on l a) → Outcome model rollback need s₁ s₂ (both acc c) b → r ≡ blamed_on l b → Applied s s₂ r
  met e s s₁ s₂ (Err f) c b r q k h t o w = absurd (ok_not_err t)
  met e s s₁ s₂ (Ok c') c (Ok d) r q k h t o w = by s s₂ r (Ok d) w (λ next s₃ y j.
      let h' = subst (λ (x : ℕ). Runs model rollback need (worked e (lookup rd) rd.known.none rd.known.top) s s₁ (Ok x)) (sym (ok_same {F = RuleFault} t)) h in
      tested e true next s s₃ y q k
      (runs_then model rollback need (blamed (λ f. store f l) (worked e (lookup rd) rd.known.none rd.known.top)) (λ c. ask (both acc c) (λ f. store f l) next) s s₁ s₃ c y
      (runs_blamed_ok model rollback need (λ f. store f l) (worked e (lookup rd) rd.known.none rd.known.top) s s₁ c h') (inr (d, s₂, o, j))))
  met e s s₁ s₂ (Ok c') c (Err f) r q k h t o w = by s s₂ r (Err (Store f l)) w (λ next.
      let h' = subst (λ (x : ℕ). Runs model rollback need (worked e (lookup rd) rd.known.none rd.known.top) s s₁ (Ok x)) (sym (ok_same {F = RuleFault} t)) h in
      tested e true next s s₂ (Err (store f l)) q k
      (runs_then model rollback need (blamed (λ f. store f l) (worked e (lookup rd) rd.known.none rd.known.top)) (λ c. ask (both acc c) (λ f. store f l) next) s s₁ s₂ c (Err (store f l))
      (runs_blamed_ok model rollback need (λ f. store f l) (worked e (lookup rd) rd.known.none rd.known.top) s s₁ c h') (inl (f, record { due = o.due; same = refl }, refl, o.same))))

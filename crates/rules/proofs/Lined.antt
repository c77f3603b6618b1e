-- The ways that reading a line can go, by its kind.
use Rattle.std.proofs.Common.{◌≡◌, ℕ, false, Err, Option, Result, sym, subst}
use Rattle.stores.specs.Model.{Model}
use Rattle.stores.specs.Outcome.{Op}
use Rattle.text.specs.Tokens.{Bytes}
use Rattle.expressions.specs.Conditions.{condition_at}
use Rattle.expressions.specs.Placed.{read_in}
use Rattle.evaluation.specs.declared.Evaluator.{Evaluator}
use Rattle.rules.specs.declared.entries.Switches.{Switches}
use Rattle.rulelines.specs.declared.fault.RuleFault.{RuleFault}
use Rattle.rulelines.specs.declared.kind.LineKind.{LineKind}
use Rattle.rulelines.specs.declared.kind.LineKind.TheVariants.{Rule}
use Rattle.rules.specs.Ruled.{rule, by_kind}
use Rattle.rules.specs.Read.{names, lookup, lined}
use Rattle.rules.specs.Turns.{Goes, Turned}

module _ {S : Type 0} (model : S → Model) (rollback : S → ℕ → S) (need : S → Op → ℕ) (rd : Evaluator Switches) (acc l : ℕ) (line : Bytes) (kind : LineKind) where
  abbrev LineTurned : S → S → Result (Option ℕ) RuleFault → Type 0
  LineTurned s s₁ r = (b : Bytes) → Turned model rollback need (by_kind kind (names rd) (lookup rd) rd.known.none rd.known.top acc l (lined line b)) acc b s s₁ r

  -- by a kind, and an answer, that are known
  by : (k : LineKind) (s s₁ : S) (r q : Result (Option ℕ) RuleFault) → k ≡ kind → r ≡ q → ((b : Bytes) → Turned model rollback need (by_kind k (names rd) (lookup rd) rd.known.none rd.known.top acc l (lined line b)) acc b s s₁ q) → LineTurned s s₁ r
  by k s s₁ r q e f h b =
      subst (λ (x : Result (Option ℕ) RuleFault). Turned model rollback need (by_kind kind (names rd) (lookup rd) rd.known.none rd.known.top acc l (lined line b)) acc b s s₁ x) (sym f)
      (subst (λ (y : LineKind). Turned model rollback need (by_kind y (names rd) (lookup rd) rd.known.none rd.known.top acc l (lined line b)) acc b s s₁ q) e (h b))

  pub rule_refused : (from : ℕ) (f : RuleFault) (s s₁ : S) (r : Result (Option ℕ) RuleFault) → Rule from ≡ kind → r ≡ Err f
      → Goes model rollback need (λ next. rule (names rd) (lookup rd) rd.known.none rd.known.top acc l next (read_in line l (condition_at false line from))) s s₁ (Err f) → LineTurned s s₁ r
  rule_refused from f s s₁ r e q h = by (Rule from) s s₁ r (Err f) e q (λ b next. h next)

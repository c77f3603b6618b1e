-- What was read of a line, as one answer: its length first, then its tokens.
use Rattle.std.proofs.Common.{◌≡◌, ℕ, ◌<◌, ◌≤◌, Bool, true, false, cond, ltb, length, Ok, Err, Result, sym, refl, ap, subst, ⊎_elim, ltb-false, ltb-true}
use Rattle.std.proofs.lemmas.Bool.{cases_Bool}
use Rattle.faults.specs.declared.Refusal.{Refusal}
use Rattle.text.specs.Tokens.{Bytes}
use Rattle.expressions.specs.Grammar.{Expr}
use Rattle.expressions.specs.Conditions.{items, postfix}
use Rattle.expressions.specs.Faults.{described}
use Rattle.expressions.specs.Placed.{on_line, read_in}
use Rattle.expressions.specs.declared.condition.Condition.{Condition}
use Rattle.expressions.specs.declared.fault.ExpressionFault.{ExpressionFault}
use Rattle.expressions.specs.declared.fault.ExpressionFault.TheVariants.{LineTooLong}
use Rattle.expressions.specs.Answers.{Answered}

module _ (line : Bytes) (l : ℕ) where
  -- a line that is too long, or one whose tokens decide
  by_length : {A : Type 0} (z : Result A (ℕ × ℕ)) (P : Result A Refusal → Type 0) → (255 < length line → P (Err (described (LineTooLong l)))) → (length line ≤ 255 → P (on_line l z)) → P (read_in line l z)
  by_length z P long short = ⊎_elim
      (λ (e : ltb 255 (length line) ≡ true). subst (λ (b : Bool). P (cond b (Err (described (LineTooLong l))) (on_line l z))) (sym e) (long (ltb-true 255 (length line) e)))
      (λ (e : ltb 255 (length line) ≡ false). subst (λ (b : Bool). P (cond b (Err (described (LineTooLong l))) (on_line l z))) (sym e) (short (ltb-false 255 (length line) e)))
      (cases_Bool (ltb 255 (length line)))

  abbrev ReadCondition : Result Condition ExpressionFault → Result Expr Refusal → Type 0
  ReadCondition (Ok k) z = (e : Expr) × (z ≡ Ok e) × (items k.steps.items ≡ postfix e)
  ReadCondition (Err f) z = z ≡ Err (described f)

  condition_short : (z : Result Expr (ℕ × ℕ)) (r : Result Condition ExpressionFault) → Answered line l z r → ReadCondition r (on_line l z)
  condition_short (Ok e) (Ok k) h = (e, refl, h.1)
  condition_short (Ok e) (Err f) h = absurd h
  condition_short (Err g) (Ok k) h = absurd h
  condition_short (Err g) (Err f) h = ap Err (sym h)

  pub condition_read : (z : Result Expr (ℕ × ℕ)) (r : Result Condition ExpressionFault) → (255 < length line → r ≡ Err (LineTooLong l)) → (length line ≤ 255 → Answered line l z r) → ReadCondition r (read_in line l z)
  condition_read z r long short = by_length z (ReadCondition r) (λ h. subst (λ (x : Result Condition ExpressionFault). ReadCondition x (Err (described (LineTooLong l)))) (sym (long h)) refl) (λ h. condition_short z r (short h))

-- What was read of a line: its length first, then its tokens.
use Rattle.std.proofs.Common.{◌≡◌, ℕ, ◌<◌, ◌≤◌, Bool, true, false, cond, ltb, length, IfOk, Ok, Err, Result, sym, refl, subst, ⊎_elim, ltb-false, ltb-true}
use Rattle.std.proofs.lemmas.Bool.{cases_Bool, cases_lt}
use Rattle.text.specs.Tokens.{Bytes}
use Rattle.expressions.specs.Grammar.{Expr}
use Rattle.expressions.specs.Conditions.{postfix}
use Rattle.expressions.specs.Faults.{described}
use Rattle.expressions.specs.Placed.{on_line, read_in}
use Rattle.expressions.specs.declared.condition.Condition.{Condition}
use Rattle.expressions.specs.declared.fault.ExpressionFault.{ExpressionFault}
use Rattle.expressions.specs.declared.fault.ExpressionFault.TheVariants.{LineTooLong}
use Rattle.expressions.specs.Answers.{Answered}
use Rattle.sources.specs.Answers.{steps_of}
use Rattle.classification.specs.Parts.{Agrees, Tests}

module _ (line : Bytes) (n : ℕ) where
  -- a line that is too long, or one whose tokens decide
  by_length : {A B : Type 0} (R : A → B → Type 0) (z : Result A (ℕ × ℕ)) (r : Result B ExpressionFault) → (255 < length line → r ≡ Err (LineTooLong n)) → (length line ≤ 255 → Agrees R (on_line n z) r)
      → Agrees R (read_in line n z) r
  by_length R z r long short = ⊎_elim
      (λ (e : ltb 255 (length line) ≡ true). subst (λ (b : Bool). Agrees R (cond b (Err (described (LineTooLong n))) (on_line n z)) r) (sym e)
      (subst (λ (x : Result _ ExpressionFault). Agrees R (Err (described (LineTooLong n))) x) (sym (long (ltb-true 255 (length line) e))) refl))
      (λ (e : ltb 255 (length line) ≡ false). subst (λ (b : Bool). Agrees R (cond b (Err (described (LineTooLong n))) (on_line n z)) r) (sym e) (short (ltb-false 255 (length line) e)))
      (cases_Bool (ltb 255 (length line)))

  condition_short : (z : Result Expr (ℕ × ℕ)) (r : Result Condition ExpressionFault) → Answered line n z r → Tests (on_line n z) r
  condition_short (Ok e) (Ok k) h = h.1
  condition_short (Ok e) (Err f) h = absurd h
  condition_short (Err g) (Ok k) h = absurd h
  condition_short (Err g) (Err f) h = h

  pub condition_read : (z : Result Expr (ℕ × ℕ)) (r : Result Condition ExpressionFault) → (255 < length line → r ≡ Err (LineTooLong n)) → (length line ≤ 255 → Answered line n z r) → Tests (read_in line n z) r
  condition_read z r long short = by_length (λ e k. steps_of k ≡ postfix e) z r long (λ h. condition_short z r (short h))

  line_short : (z : Result Expr (ℕ × ℕ)) (r : Result Condition ExpressionFault) → Answered line n z r → IfOk r (λ k. k.line.now ≡ line)
  line_short (Ok e) (Ok k) h = h.0
  line_short (Ok e) (Err f) h = tt
  line_short (Err g) (Ok k) h = absurd h
  line_short (Err g) (Err f) h = tt

  -- a condition is over the line that was read
  pub line_read : (z : Result Expr (ℕ × ℕ)) (r : Result Condition ExpressionFault) → (255 < length line → r ≡ Err (LineTooLong n)) → (length line ≤ 255 → Answered line n z r) → IfOk r (λ k. k.line.now ≡ line)
  line_read z r long short = ⊎_elim
      (λ (h : 255 < length line). subst (λ (x : Result Condition ExpressionFault). IfOk x (λ k. k.line.now ≡ line)) (sym (long h)) tt)
      (λ (h : length line ≤ 255). line_short z r (short h))
      (cases_lt 255 (length line))

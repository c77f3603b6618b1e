-- What the parts of classifying a line answer. Assumes nothing.
--   conditional_at o   there is a directive, and it is a conditional one
--   checked_line last c n d l   the faults 9 to 11 of line number n; d tells whether its directive is a conditional one
--   Agrees R z r      what the definition's z and the code's r read is related by R, or they are the same refusal
--   Tests z r         the condition r is what the definition's z says: the same steps, or the same refusal
--   Makes z r         the line r is what the definition's z says: the same line, or the same refusal
use Rattle.std.specs.Prelude.{◌≡◌, ℕ, Bool, false, ◌&&◌, ◌||◌, Some, None, Ok, Err, Option, Result, ◌==◌}
use Rattle.faults.specs.declared.Refusal.{Refusal}
use Rattle.text.specs.Tokens.{Bytes}
use Rattle.expressions.specs.Conditions.{postfix}
use Rattle.expressions.specs.Grammar.{Expr}
use Rattle.expressions.specs.Faults.{described as expression}
use Rattle.expressions.specs.declared.condition.Condition.{Condition}
use Rattle.expressions.specs.declared.fault.ExpressionFault.{ExpressionFault}
use Rattle.scanning.specs.Modes.{open_after}
use Rattle.directives.specs.declared.Found.{Found}
use Rattle.directives.specs.Gaps.{front}
use Rattle.directives.specs.Directives.{hash, alone, conditional, final}
use Rattle.sources.specs.declared.fault.LineFault.{LineFault}
use Rattle.sources.specs.declared.fault.LineFault.TheVariants.{Line as FaultyLine}
use Rattle.sources.specs.declared.fault.LineReason.TheVariants.{Continued, CommentOpen, HashBehindComment}
use Rattle.sources.specs.declared.line.Line.{Line}
use Rattle.sources.specs.Classified as definition
use Rattle.sources.specs.Answers.{steps_of, shown, seen}

abbrev pub conditional_at : Option Found → Bool
conditional_at None = false
conditional_at (Some f) = conditional (Some f.directive)

abbrev pub checked_line : Bool → Bool → ℕ → Bool → Bytes → Result (Unit {0}) LineFault
checked_line last c n d l =
    definition.refuse (final 0 l == 92) (FaultyLine Continued n)
    (definition.refuse (open_after c l && (last || (d || alone (front c l)))) (FaultyLine CommentOpen n)
    (definition.refuse (c && hash (front c l)) (FaultyLine HashBehindComment n)
    (Ok tt)))

abbrev pub Agrees : {A B : Type 0} → (A → B → Type 0) → Result A Refusal → Result B ExpressionFault → Type 0
Agrees R (Ok a) (Ok b) = R a b
Agrees R (Ok a) (Err f) = ⊥
Agrees R (Err g) (Ok b) = ⊥
Agrees R (Err g) (Err f) = expression f ≡ g

abbrev pub Tests : Result Expr Refusal → Result Condition ExpressionFault → Type 0
Tests z r = Agrees (λ e k. steps_of k ≡ postfix e) z r

abbrev pub Makes : Result definition.Line Refusal → Result Line ExpressionFault → Type 0
Makes z r = Agrees (λ x y. shown y ≡ seen x) z r

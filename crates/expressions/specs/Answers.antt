-- What the functions that read a line answer. Assumes nothing.
--   Answered line n z r      the answer r is what the definition's z says: a condition over this line with the steps of the expression, or the fault with
--                            the number, this line's number n, and the byte
--   Named line ps n z r      the same of a name; it stands at the first of the tokens ps
--   Empty n z r              the same where nothing may stand
--   RefusedAt ps z m b       of the tokens ps those in front can go on to an expression, the next or their end cannot; m is the number that what is due
--                            there gives, and b the place of that token, or z
--   Conforms line ps r       the tokens ps are an expression of the grammar and the answer has its steps, or they are none and the fault is at its place
use Rattle.std.specs.Prelude.{◌≡◌, ℕ, suc, List, ◌++◌, length, Some, None, Ok, Err, Option, Result}
use Rattle.text.specs.Tokens.{Bytes, Placed}
use Rattle.text.specs.declared.scanner.Part.{Part}
use Rattle.expressions.specs.Grammar.{Expr}
use Rattle.expressions.specs.Derived.{Expression, GoesOn, Stops, Number}
use Rattle.expressions.specs.Conditions.{kinds, place_or, items, postfix}
use Rattle.expressions.specs.Faults.{refused, described}
use Rattle.expressions.specs.declared.condition.Condition.{Condition}
use Rattle.expressions.specs.declared.fault.ExpressionFault.{ExpressionFault}

abbrev pub Answered : Bytes → ℕ → Result Expr (ℕ × ℕ) → Result Condition ExpressionFault → Type 0
Answered line n (Ok e) (Ok k) = (k.line.now ≡ line) × (items k.steps.items ≡ postfix e)
Answered line n (Ok e) (Err f) = ⊥
Answered line n (Err g) (Ok k) = ⊥
Answered line n (Err g) (Err f) = described f ≡ refused g.0 n g.1

abbrev pub Named : Bytes → List Placed → ℕ → Result Bytes (ℕ × ℕ) → Result Part ExpressionFault → Type 0
Named line ps n (Ok x) (Ok part) = (part.text.now ≡ x) × (part.at ≡ place_or (suc (length line)) ps)
Named line ps n (Ok x) (Err f) = ⊥
Named line ps n (Err g) (Ok part) = ⊥
Named line ps n (Err g) (Err f) = described f ≡ refused g.0 n g.1

abbrev pub Empty : ℕ → Option (ℕ × ℕ) → Result (Unit {0}) ExpressionFault → Type 0
Empty n None (Ok u) = Unit {0}
Empty n None (Err f) = ⊥
Empty n (Some g) (Ok u) = ⊥
Empty n (Some g) (Err f) = described f ≡ refused g.0 n g.1

pub record RefusedAt (ps : List Placed) (z m b : ℕ) : Type 0 where
  pub past : List Placed
  pub from : List Placed
  pub split : ps ≡ past ++ from
  pub goes : GoesOn (kinds past)
  pub stops : Stops (kinds past) m (kinds from)
  pub number : Number (kinds past) m (kinds from)
  pub place : b ≡ place_or z from

abbrev pub Conforms : Bytes → List Placed → Result Condition ExpressionFault → Type 0
Conforms line ps (Ok k) = (e : Expr) × Expression (kinds ps) e × (items k.steps.items ≡ postfix e)
Conforms line ps (Err f) = ((e : Expr) → Expression (kinds ps) e → ⊥) × RefusedAt ps (suc (length line)) (described f).number (described f).byte

-- Working an expression out, one operation after another. Assumes nothing.
-- `gives i a b s r s'`: on its operands a and b, from the state s, the step i may answer r and leave s'. A step with fewer operands has `idle` in their place.
--   Run S V E    what may be answered from a state, and the state that is left
--   Answers v    v is the answer
--   After p k    p, and then k with its value; a refusal by p is the answer
--   Works e k    e, operands first, left to right, no shortcuts, and then k with its value; the first refusal is the answer
use Rattle.std.specs.Prelude.{◌≡◌, ◌⊎◌, Ok, Err, Result}
use Rattle.expressions.specs.Grammar.{Expr, never, always, named, neg, conj, disj}
use Rattle.expressions.specs.Conditions.{Item, false-item, true-item, not-item, and_item, or-item, name_item}

abbrev pub Run : Type 0 → Type 0 → Type 0 → Type 1
Run S V E = S → Result V E → S → Type 0

module _ {S V E : Type 0} where
  abbrev pub Answers : V → Run S V E
  Answers v s r s' = (r ≡ Ok v) × (s' ≡ s)

  abbrev pub After : Run S V E → (V → Run S V E) → Run S V E
  After p k s r s' = ((f : E) × p s (Err f) s' × (r ≡ Err f)) ⊎ ((v : V) × (t : S) × p s (Ok v) t × k v t r s')

module _ {S V E : Type 0} (gives : Item → V → V → Run S V E) (idle : V) where
  abbrev pub Works : Expr → (V → Run S V E) → Run S V E
  Works never k = After (gives false-item idle idle) k
  Works always k = After (gives true-item idle idle) k
  Works (named x) k = After (gives (name_item x) idle idle) k
  Works (neg e) k = Works e (λ a. After (gives not-item a idle) k)
  Works (conj e f) k = Works e (λ a. Works f (λ b. After (gives and_item a b) k))
  Works (disj e f) k = Works e (λ a. Works f (λ b. After (gives or-item a b) k))

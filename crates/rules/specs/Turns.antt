-- What the functions that read rule lines do, one line at a time. Assumes nothing.
--   blamed_on l r          a store's answer with its refusal told as one of line l
--   seen f r              an answer of the code with its value taken by f and its fault described
--   Goes p s s₁ r         answered d: whatever follows with d from s₁, the steps p with that continuation do from s; refused: so are they
--   Turned p .. r         the same for a whole line, which may also be the last
--   foreign_line line l    the refusal of a line of no known kind
--   all_known names is     every name among the steps is declared
use Rattle.std.specs.Prelude.{ℕ, Bool, true, cond, List, length, is_some, Some, None, Ok, Err, Option, Result, nat_lt}
use Rattle.std.specs.List.{list_all}
use Rattle.faults.specs.declared.Refusal.{Refusal}
use Rattle.stores.specs.Model.{Model}
use Rattle.stores.specs.Outcome.{Op}
use Rattle.stores.specs.Steps.{Steps, Runs}
use Rattle.stores.specs.declared.fault.StoreFault.{StoreFault}
use Rattle.names.specs.Names.{index_of}
use Rattle.text.specs.Tokens.{Bytes}
use Rattle.expressions.specs.Conditions.{Item, false-item, true-item, not-item, and_item, or-item, name_item}
use Rattle.rulelines.specs.declared.fault.RuleFault.{RuleFault}
use Rattle.rulelines.specs.declared.fault.RuleFault.TheVariants.{Store, Expression}
use Rattle.expressions.specs.declared.fault.ExpressionFault.TheVariants.{LineTooLong}
use Rattle.rulelines.specs.Faults.{described, declarations}
use Rattle.rules.specs.Ruled.{Answer}

abbrev pub blamed_on : {A : Type 0} → ℕ → Result A StoreFault → Result A RuleFault
blamed_on l (Ok a) = Ok a
blamed_on l (Err f) = Err (Store f l)

abbrev pub seen : {X A : Type 0} → (X → A) → Result X RuleFault → Result A Refusal
seen f (Ok x) = Ok (f x)
seen f (Err e) = Err (described e)

abbrev pub NextSteps : Type 0
NextSteps = ℕ → Steps Answer Refusal

abbrev pub Goes : {S : Type 0} → (S → Model) → (S → ℕ → S) → (S → Op → ℕ) → (NextSteps → Steps Answer Refusal) → S → S → Result ℕ RuleFault → Type 0
Goes {S} model rollback need p s s₁ (Ok d) =
    (next : NextSteps) (s₂ : S) (r : Result Answer Refusal) → Runs model rollback need (next d) s₁ s₂ r → Runs model rollback need (p next) s s₂ r
Goes model rollback need p s s₁ (Err f) = (next : NextSteps) → Runs model rollback need (p next) s s₁ (Err (described f))

abbrev pub Turned : {S : Type 0} → (S → Model) → (S → ℕ → S) → (S → Op → ℕ) → (NextSteps → Steps Answer Refusal) → ℕ → Bytes → S → S → Result (Option ℕ) RuleFault → Type 0
Turned model rollback need p acc behind s s₁ (Ok (Some d)) = Goes model rollback need p s s₁ (Ok d)
Turned model rollback need p acc behind s s₁ (Ok None) = (next : NextSteps) → Runs model rollback need (p next) s s₁ (Ok (acc, behind))
Turned model rollback need p acc behind s s₁ (Err f) = Goes model rollback need p s s₁ (Err f)

abbrev pub foreign_line : Bytes → ℕ → Refusal
foreign_line line l = cond (nat_lt 255 (length line)) (described (Expression (LineTooLong l))) (declarations l)

abbrev pub known_item : List Bytes → Item → Bool
known_item names false-item = true
known_item names true-item = true
known_item names not-item = true
known_item names and_item = true
known_item names or-item = true
known_item names (name_item x) = is_some (index_of names x)

abbrev pub all_known : List Bytes → List Item → Bool
all_known names is = list_all (known_item names) is

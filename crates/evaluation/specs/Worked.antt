-- Working an expression out over a store. Assumes nothing.
-- `look` gives the entry of a name, the number of its set; `none` and `top` are the numbers of the empty set and of the allowed configurations.
--   entry_or o d       the entry, or d where the name has none
--   worked e          the operations of e: operands first, left to right, no shortcuts; `!e` is `top` without e
--   one i a b         what the step i asks, on the numbers a and b of its operands; `!` has a alone
--   steps_of c         the steps of the condition c of the code
use Rattle.std.specs.Prelude.{ℕ, List, Some, None, Option}
use Rattle.stores.specs.Outcome.{Op, both, either, less}
use Rattle.stores.specs.Steps.{Steps, done, then, asked}
use Rattle.stores.specs.declared.fault.StoreFault.{StoreFault}
use Rattle.text.specs.Tokens.{Bytes}
use Rattle.expressions.specs.Grammar.{Expr, never, always, named, neg, conj, disj}
use Rattle.expressions.specs.Conditions.{Item, false-item, true-item, not-item, and_item, or-item, name_item, items}
use Rattle.expressions.specs.declared.condition.Condition.{Condition}

abbrev pub entry_or : Option ℕ → ℕ → ℕ
entry_or None d = d
entry_or (Some c) d = c

abbrev pub op : Op → Steps ℕ StoreFault
op o = asked o (λ f. f)

abbrev pub worked : Expr → (Bytes → Option ℕ) → ℕ → ℕ → Steps ℕ StoreFault
worked never look none top = done none
worked always look none top = done top
worked (named x) look none top = done (entry_or (look x) none)
worked (neg e) look none top = then (worked e look none top) (λ x. op (less top x))
worked (conj e f) look none top = then (worked e look none top) (λ x. then (worked f look none top) (λ y. op (both x y)))
worked (disj e f) look none top = then (worked e look none top) (λ x. then (worked f look none top) (λ y. op (either x y)))

abbrev pub one : Item → (Bytes → Option ℕ) → ℕ → ℕ → ℕ → ℕ → Steps ℕ StoreFault
one false-item look none top a b = done none
one true-item look none top a b = done top
one (name_item x) look none top a b = done (entry_or (look x) none)
one not-item look none top a b = op (less top a)
one and_item look none top a b = op (both a b)
one or-item look none top a b = op (either a b)

abbrev pub steps_of : Condition → List Item
steps_of c = items c.steps.items

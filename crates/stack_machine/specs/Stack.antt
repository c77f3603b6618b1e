-- The steps of a condition on the stack of values that the steps before them left, the newest first. Assumes nothing.
--   first d st, rest st   the value on top (d where there is none), and what lies below
--   operands d i st       the operands of the step i, with d in the place of those that it does not have
--   popped i st           the stack without them
use Rattle.std.specs.Prelude.{List, [], ◌∷◌}
use Rattle.expressions.specs.Conditions.{Item, not-item, and_item, or-item}

module _ {V : Type 0} where
  abbrev pub first : V → List V → V
  first d [] = d
  first d (x ∷ st) = x

  abbrev pub rest : List V → List V
  rest [] = []
  rest (x ∷ st) = st

  abbrev pub operands : V → Item → List V → V × V
  operands d not-item st = (first d st, d)
  operands d and_item st = (first d (rest st), first d st)
  operands d or-item st = (first d (rest st), first d st)
  operands d _ st = (d, d)

  abbrev pub popped : Item → List V → List V
  popped not-item st = rest st
  popped and_item st = rest (rest st)
  popped or-item st = rest (rest st)
  popped _ st = st

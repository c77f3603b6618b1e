-- The operations that append a set, as the code has them. Assumes nothing.
--   op_of o                 the operation of a store that o is
--   connected how x y      whether a configuration is in the set made of two, from whether it is in each
--   Operands n c o         its switch is one of n, or its numbers are below c
--   bit_at n ws o t p       bit p of word t of the set that o works out, from the words of its operands
--   NewWord n ws o t r     r is word t of that set: each bit is right, and the unused ones are 0
--   Written n c o ws ws'   the words of that set were written into slot c, and no other word changed
use Rattle.std.specs.Prelude.{◌≡◌, ℕ, ◌+◌, ◌*◌, ◌^◌, ◌<◌, ◌≤◌, Bool, not, ◌&&◌, ◌||◌, List, slice_index}
use Rattle.stores.specs.Sets.{on}
use Rattle.stores.specs.Outcome.{Op, switch}
use Rattle.stores.specs.Joined.{joined}
use Rattle.stores.specs.declared.connective.Connective.{Connective}
use Rattle.stores.specs.declared.connective.Connective.TheVariants.{Both, Either, Less}
use Rattle.bitmaps.specs.Layout.{width, used, start}
use Rattle.bitmaps.specs.declared.operation.Operation.{Operation}
use Rattle.bitmaps.specs.declared.operation.Operation.TheVariants.{Switch, Join}

abbrev pub op_of : Operation → Op
op_of (Switch i) = switch i
op_of (Join how a b) = joined how a b

abbrev pub Operands : ℕ → ℕ → Operation → Type 0
Operands n c (Switch i) = i < n
Operands n c (Join how a b) = (a < c) × (b < c)

abbrev pub connected : Connective → Bool → Bool → Bool
connected Both x y = x && y
connected Either x y = x || y
connected Less x y = x && not y

abbrev pub bit_at : ℕ → List ℕ → Operation → ℕ → ℕ → Bool
bit_at n ws (Switch i) t p = on p (slice_index ws (start n 1 + t)) && on i (t * 64 + p)
bit_at n ws (Join how a b) t p = connected how (on p (slice_index ws (start n a + t))) (on p (slice_index ws (start n b + t)))

pub record NewWord (n : ℕ) (ws : List ℕ) (o : Operation) (t r : ℕ) : Type 0 where
  pub bits : (p : ℕ) → p < 64 → on p r ≡ bit_at n ws o t p
  pub unused : r < 2 ^ used n

pub record Written (n c : ℕ) (o : Operation) (ws ws' : List ℕ) : Type 0 where
  pub made : (t : ℕ) → t < width n → NewWord n ws o t (slice_index ws' (start n c + t))
  pub before : (i : ℕ) → i < start n c → slice_index ws' i ≡ slice_index ws i
  pub after : (i : ℕ) → start n (c + 1) ≤ i → slice_index ws' i ≡ slice_index ws i

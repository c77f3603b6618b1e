-- The operations on two sets, as the code has them. Assumes nothing.
--   joined how a b   the operation of a store that how is, on the sets a and b
use Rattle.std.specs.Prelude.{ℕ}
use Rattle.stores.specs.Outcome.{Op, both, either, less}
use Rattle.stores.specs.declared.connective.Connective.{Connective}
use Rattle.stores.specs.declared.connective.Connective.TheVariants.{Both, Either, Less}

abbrev pub joined : Connective → ℕ → ℕ → Op
joined Both a b = both a b
joined Either a b = either a b
joined Less a b = less a b

-- The connectives. Assumes nothing.
--   meaning o x y   what a connective gives at each configuration
--   known_of o a b   the answer at two cells, where it needs no recursion
use Rattle.std.specs.Prelude.{ℕ, Bool, cond, not, ◌&&◌, ◌||◌, Some, None, Option, ◌==◌}
use Rattle.stores.specs.declared.connective.Connective.{Connective}
use Rattle.stores.specs.declared.connective.Connective.TheVariants.{Both, Either, Less}

abbrev pub meaning : Connective → Bool → Bool → Bool
meaning Both x y = x && y
meaning Either x y = x || y
meaning Less x y = x && not y

abbrev pub known_of : Connective → ℕ → ℕ → Option ℕ
known_of Both a b = cond (a == 0 || b == 0) (Some 0) (cond (a == 1 || a == b) (Some b) (cond (b == 1) (Some a) None))
known_of Either a b = cond (a == 1 || b == 1) (Some 1) (cond (a == 0 || a == b) (Some b) (cond (b == 0) (Some a) None))
known_of Less a b = cond (a == 0 || (b == 1 || a == b)) (Some 0) (cond (b == 0) (Some a) None)

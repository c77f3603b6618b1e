-- When an expression is true. Assumes nothing.
--   Env              the names that are defined, as a test of a name
--   truth e D        is e true where D tells which names are defined
use Rattle.std.specs.Prelude.{Bool, true, false, not, ◌&&◌, ◌||◌}
use Rattle.text.specs.Tokens.{Bytes}
use Rattle.expressions.specs.Grammar.{Expr, never, always, named, neg, conj, disj}

abbrev pub Env : Type 0
Env = Bytes → Bool

abbrev pub truth : Expr → Env → Bool
truth never D = false
truth always D = true
truth (named x) D = D x
truth (neg e) D = not (truth e D)
truth (conj e f) D = truth e D && truth f D
truth (disj e f) D = truth e D || truth f D

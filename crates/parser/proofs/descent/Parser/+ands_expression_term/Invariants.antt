use Rattle.std.proofs.Common.{◌+◌, ◌*◌, length}
use Rattle.expressions.specs.Grammar.{conj, disj, is_and, is_or, term, ands_of}
use Rattle.parser.specs.Parsing.{ahead}
use Rattle.parser.proofs.Loops.{Looped}
use Rattle.parser.proofs.descent.Parser.+ands_expression_term.Given as goal

abbrev pub decreases-term : goal.decreases-term
decreases-term l = 3 * l.left

abbrev pub decreases-ands : goal.decreases-ands
decreases-ands l = 3 * l.left + 1

abbrev pub decreases-expression : goal.decreases-expression
decreases-expression l = 3 * l.left + 2

abbrev pub invariant-ands-loop-self : goal.invariant-ands-loop-self
invariant-ands-loop-self l = Looped is_and conj (λ s. term l.left s) l.initial.self l.self

abbrev pub decreases-ands-loop-self : goal.decreases-ands-loop-self
decreases-ands-loop-self l = length (ahead l.self)

abbrev pub invariant-expression-loop-self : goal.invariant-expression-loop-self
invariant-expression-loop-self l = Looped is_or disj (λ s. ands_of l.left s) l.initial.self l.self

abbrev pub decreases-expression-loop-self : goal.decreases-expression-loop-self
decreases-expression-loop-self l = length (ahead l.self)

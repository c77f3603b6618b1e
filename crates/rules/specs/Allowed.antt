-- What rules allow. Assumes nothing.
--   defines names k x     configuration k has the name x defined: it is the name of a switch that is on in k
--   rules_in lines         the expressions of the `rule` lines up to `begin`
--   satisfies es D        every expression of es is true where D tells which names are defined
--   allowed_by A names lines   the configurations of A that satisfy every rule
use Rattle.std.specs.Prelude.{ℕ, Bool, true, false, ◌&&◌, List, [], ◌∷◌, Some, None, Ok, Err, Option, Result}
use Rattle.stores.specs.Sets.{Set, on}
use Rattle.lines.specs.Lines.{Line}
use Rattle.names.specs.Names.{index_of}
use Rattle.text.specs.Tokens.{Bytes}
use Rattle.expressions.specs.Grammar.{Expr}
use Rattle.expressions.specs.Truth.{Env, truth}
use Rattle.expressions.specs.Conditions.{condition_at}
use Rattle.rulelines.specs.declared.kind.LineKind.{LineKind}
use Rattle.rulelines.specs.declared.kind.LineKind.TheVariants.{Blank, Switch, Rule, Begin, Foreign}
use Rattle.rulelines.specs.Kinds.{kind_of}

abbrev pub is_on : Option ℕ → ℕ → Bool
is_on None k = false
is_on (Some i) k = on i k

abbrev pub defines : List Bytes → ℕ → Env
defines names k x = is_on (index_of names x) k

abbrev pub also : Result Expr (ℕ × ℕ) → List Expr → List Expr
also (Ok e) es = e ∷ es
also (Err f) es = es

abbrev pub rules_by : LineKind → Bytes → List Expr → List Expr
rules_by Blank line es = es
rules_by (Switch from) line es = es
rules_by (Rule from) line es = also (condition_at false line from) es
rules_by (Begin from) line es = []
rules_by Foreign line es = es

abbrev pub rules_in : List Line → List Expr
rules_in [] = []
rules_in (x ∷ xs) = rules_by (kind_of x.content) x.content (rules_in xs)

abbrev pub satisfies : List Expr → Env → Bool
satisfies [] D = true
satisfies (e ∷ es) D = truth e D && satisfies es D

abbrev pub allowed_by : Set → List Bytes → List Line → Set
allowed_by A names lines = λ k. A k && satisfies (rules_in lines) (defines names k)

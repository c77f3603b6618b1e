-- The `switch` lines at the front of rule lines. Assumes nothing.
--   Declared          the names declared, how many lines they stand in, and the text from the first line of another kind on
--   declared names l here lines   those of the lines from line l + 1 on, whose text is `here`, behind the names so far; or the first refusal:
--                     12, then 13 or 14, then 23 for a name declared twice. The line of another kind is not looked at further
--   declared_in text   those of a whole text
use Rattle.std.specs.Prelude.{ℕ, false, cond, List, [], ◌∷◌, ◌++◌, Ok, Err, Result}
use Rattle.faults.specs.declared.Refusal.{Refusal}
use Rattle.lines.specs.Lines.{Line, lines_of}
use Rattle.names.specs.Names.{fresh}
use Rattle.text.specs.Tokens.{Bytes}
use Rattle.expressions.specs.Conditions.{only_name}
use Rattle.rulelines.specs.declared.kind.LineKind.{LineKind}
use Rattle.rulelines.specs.declared.kind.LineKind.TheVariants.{Blank, Switch, Rule, Begin, Foreign}
use Rattle.expressions.specs.Placed.{read_in}
use Rattle.rulelines.specs.Faults.{declarations}
use Rattle.rulelines.specs.Kinds.{kind_of, next_line}

pub record Declared : Type 0 where
  pub names : List Bytes
  pub lines : ℕ
  pub rest : Bytes

-- a name behind those declared before it
abbrev pub named : List Bytes → ℕ → (List Bytes → Result Declared Refusal) → Result Bytes Refusal → Result Declared Refusal
named names l next (Ok x) = cond (fresh names x) (next (names ++ x ∷ [])) (Err (declarations l))
named names l next (Err f) = Err f

-- line l, behind which `next` reads on; `stop` is what a line of another kind answers
abbrev pub by_kind : LineKind → List Bytes → ℕ → Bytes → (List Bytes → Result Declared Refusal) → Result Declared Refusal → Result Declared Refusal
by_kind Blank names l line next stop = next names
by_kind (Switch from) names l line next stop = named names l next (read_in line l (only_name false line from))
by_kind (Rule from) names l line next stop = stop
by_kind (Begin from) names l line next stop = stop
by_kind Foreign names l line next stop = stop

abbrev pub declared : List Bytes → ℕ → Bytes → List Line → Result Declared Refusal
declared names l here [] = Ok (record { names = names; lines = l; rest = here })
declared names l here (x ∷ xs) =
    by_kind (kind_of x.content) names (next_line l) x.content
    (λ ns. declared ns (next_line l) x.behind xs)
    (Ok (record { names = names; lines = l; rest = here }))

abbrev pub declared_in : Bytes → Result Declared Refusal
declared_in text = declared [] 0 text (lines_of text)

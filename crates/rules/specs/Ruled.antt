-- What reading `rule` lines asks of a store, and what it refuses. Assumes nothing.
--   entry_of names ns x    the number of the switch called x, where ns has the numbers of the switches in order
--   known names e         every name of e is declared
--   switching n i ns k    `switch` for each of n switches from i on, and then k of their numbers
--   ruling ..             the lines from line l + 1 on, with `acc` the number of what the rules so far allow: on each line first 12, then 13 to 16,
--                         then 23, and then the rule's operations and `both` with what was allowed; `begin` ends it, and a text without one is
--                         refused behind its last line. The answer is the number of what all rules allow, and the text behind `begin`
--   ruled ..              all of it over n switches
use Rattle.std.specs.Prelude.{ℕ, zero, suc, ◌+◌, Bool, true, false, cond, ◌&&◌, List, [], ◌∷◌, ◌++◌, length, is_some, Some, None, Ok, Err, Option, Result, nat_lt, slice_index}
use Rattle.faults.specs.declared.Refusal.{Refusal}
use Rattle.stores.specs.Outcome.{switch, both}
use Rattle.stores.specs.Steps.{Steps, done, fail, ask, then, blamed}
use Rattle.stores.specs.Faults.{described}
use Rattle.lines.specs.Lines.{Line, lines_of}
use Rattle.names.specs.Names.{index_of}
use Rattle.text.specs.Tokens.{Bytes}
use Rattle.expressions.specs.Grammar.{Expr, never, always, named, neg, conj, disj}
use Rattle.expressions.specs.Conditions.{condition_at, only_name, nothing_at}
use Rattle.evaluation.specs.Worked.{worked}
use Rattle.rulelines.specs.declared.kind.LineKind.{LineKind}
use Rattle.rulelines.specs.declared.kind.LineKind.TheVariants.{Blank, Switch, Rule, Begin, Foreign}
use Rattle.expressions.specs.Placed.{read_in, unless}
use Rattle.rulelines.specs.Faults.{declarations}
use Rattle.rulelines.specs.Kinds.{kind_of, next_line}

abbrev pub Looked : Type 0
Looked = Bytes → Option ℕ

abbrev pub Answer : Type 0
Answer = ℕ × Bytes

abbrev pub number_at : List ℕ → Option ℕ → Option ℕ
number_at ns None = None
number_at ns (Some i) = cond (nat_lt i (length ns)) (Some (slice_index ns i)) None

abbrev pub entry_of : List Bytes → List ℕ → Looked
entry_of names ns x = number_at ns (index_of names x)

abbrev pub known : List Bytes → Expr → Bool
known names never = true
known names always = true
known names (named x) = is_some (index_of names x)
known names (neg e) = known names e
known names (conj e f) = known names e && known names f
known names (disj e f) = known names e && known names f

abbrev pub switching : {A : Type 0} → ℕ → ℕ → List ℕ → (List ℕ → Steps A Refusal) → Steps A Refusal
switching zero i ns k = k ns
switching (suc n) i ns k = ask (switch i) (λ f. described f 0) (λ c. switching n (i + 1) (ns ++ c ∷ []) k)

-- a rule of line l
abbrev pub rule : List Bytes → Looked → ℕ → ℕ → ℕ → ℕ → (ℕ → Steps Answer Refusal) → Result Expr Refusal → Steps Answer Refusal
rule names look none top acc l next (Ok e) =
    cond (known names e)
    (then (blamed (λ f. described f l) (worked e look none top)) (λ c. ask (both acc c) (λ f. described f l) next))
    (fail (declarations l))
rule names look none top acc l next (Err f) = fail f

-- nothing stands behind `begin`
abbrev pub ended : ℕ → Bytes → Result (Unit {0}) Refusal → Steps Answer Refusal
ended acc behind (Ok u) = done (acc, behind)
ended acc behind (Err f) = fail f

-- a line that may not stand here, whatever is right with it
abbrev pub misplaced : {A : Type 0} → ℕ → Result A Refusal → Steps Answer Refusal
misplaced l (Ok x) = fail (declarations l)
misplaced l (Err f) = fail f

abbrev pub by_kind : LineKind → List Bytes → Looked → ℕ → ℕ → ℕ → ℕ → Line → (ℕ → Steps Answer Refusal) → Steps Answer Refusal
by_kind Blank names look none top acc l x next = next acc
by_kind (Rule from) names look none top acc l x next = rule names look none top acc l next (read_in x.content l (condition_at false x.content from))
by_kind (Begin from) names look none top acc l x next = ended acc x.behind (read_in x.content l (unless (nothing_at false x.content from)))
by_kind (Switch from) names look none top acc l x next = misplaced l (read_in x.content l (only_name false x.content from))
by_kind Foreign names look none top acc l x next = misplaced l (read_in x.content l (unless None))

abbrev pub ruling : List Bytes → Looked → ℕ → ℕ → ℕ → ℕ → List Line → Steps Answer Refusal
ruling names look none top acc l [] = fail (declarations 0)
ruling names look none top acc l (x ∷ xs) = by_kind (kind_of x.content) names look none top acc (next_line l) x (λ d. ruling names look none top d (next_line l) xs)

abbrev pub ruled : List Bytes → ℕ → ℕ → ℕ → ℕ → Bytes → Steps Answer Refusal
ruled names n none top l text = switching n 0 [] (λ ns. ruling names (entry_of names ns) none top top l (lines_of text))

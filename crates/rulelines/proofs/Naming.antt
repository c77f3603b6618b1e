-- The loop over `switch` lines.
use Rattle.std.proofs.Common.{◌≡◌, ℕ, false, List, [], ◌∷◌, ◌++◌, Ok, Result, sym, ap, ◌∙◌, Bor}
use Rattle.faults.specs.declared.Refusal.{Refusal}
use Rattle.lines.specs.Lines.{until_feed, past_feed, lines_of, FirstLine}
use Rattle.names.specs.Names.{texts}
use Rattle.names.proofs.Turns.{texts_append}
use Rattle.text.specs.Tokens.{Bytes}
use Rattle.expressions.specs.Conditions.{only_name}
use Rattle.expressions.specs.Placed.{read_in}
use Rattle.rulelines.specs.declared.kind.LineKind.{LineKind}
use Rattle.rulelines.specs.declared.kind.LineKind.TheVariants.{Blank, Switch}
use Rattle.rulelines.specs.Kinds.{kind_of, next_line}
use Rattle.rulelines.specs.Declaring.{Declared, named, by_kind, declared}

module _ (names : List Bytes) (l l' : ℕ) (rest line behind : Bytes) (first : FirstLine rest) (is-line : line ≡ until_feed rest) (is-behind : behind ≡ past_feed rest) (is-next : l' ≡ next_line l) where
  -- the first line of what is left
  turn : declared names l rest (lines_of rest) ≡ by_kind (kind_of line) names l' line (λ ns. declared ns l' behind (lines_of behind)) (Ok (record { names = names; lines = l; rest = rest }))
  turn =
      ap (declared names l rest) first
      ∙ (λ i. by_kind (kind_of (sym is-line i)) names (sym is-next i) (sym is-line i) (λ ns. declared ns (sym is-next i) (sym is-behind i) (lines_of (sym is-behind i))) (Ok (record { names = names; lines = l; rest = rest })))

  by_kind_is : (k : LineKind) → k ≡ kind_of line → declared names l rest (lines_of rest) ≡ by_kind k names l' line (λ ns. declared ns l' behind (lines_of behind)) (Ok (record { names = names; lines = l; rest = rest }))
  by_kind_is k e = turn ∙ ap (λ (x : LineKind). by_kind x names l' line (λ ns. declared ns l' behind (lines_of behind)) (Ok (record { names = names; lines = l; rest = rest }))) (sym e)

  pub blank_turn : Blank ≡ kind_of line → declared names l rest (lines_of rest) ≡ declared names l' behind (lines_of behind)
  blank_turn e = by_kind_is Blank e

  pub switch_turn : (from : ℕ) (x : Bytes) (seen more : List Bytes) → Switch from ≡ kind_of line → seen ≡ names
      → ((next : List Bytes → Result Declared Refusal) → named seen l' next (read_in line l' (only_name false line from)) ≡ next (seen ++ x ∷ [])) → more ≡ names ++ x ∷ []
      → declared names l rest (lines_of rest) ≡ declared more l' behind (lines_of behind)
  switch_turn from x seen more e s h q =
      let next = λ (ns : List Bytes). declared ns l' behind (lines_of behind) in
      by_kind_is (Switch from) e
      ∙ ap (λ (ns : List Bytes). named ns l' next (read_in line l' (only_name false line from))) (sym s) ∙ h next ∙ ap (λ (ns : List Bytes). next (ns ++ x ∷ [])) s ∙ ap next (sym q)

-- one more name
pub texts_more : (ns ms : List (Bor Bytes)) (x : Bor Bytes) → ms ≡ ns ++ x ∷ [] → texts ms ≡ texts ns ++ x.now ∷ []
texts_more ns ms x e = ap texts e ∙ texts_append ns (x ∷ [])

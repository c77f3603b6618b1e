-- What a rule line is, by its first token. Assumes nothing.
--   kind_of line       blank, a `switch`, `rule` or `begin` line with the offset behind that word, or a foreign line
--   next_line l        the number of the line behind line l; the largest number stays
use Rattle.std.specs.Prelude.{ℕ, ◌+◌, ◌-◌, ◌^◌, min, false, cond, List, [], ◌∷◌, length, codes}
use Rattle.std.specs.Str.{bytes_eq}
use Rattle.text.specs.Tokens.{Bytes, Tok, nought, unit, defined, not, and, or, opened, closed, name, other, Placed, tokens_at}
use Rattle.rulelines.specs.declared.kind.LineKind.{LineKind}
use Rattle.rulelines.specs.declared.kind.LineKind.TheVariants.{Blank, Switch, Rule, Begin, Foreign}

abbrev pub by_word : Bytes → ℕ → LineKind
by_word x behind =
    cond (bytes_eq x (codes "switch")) (Switch behind)
    (cond (bytes_eq x (codes "rule")) (Rule behind)
    (cond (bytes_eq x (codes "begin")) (Begin behind) Foreign))

abbrev pub by_token : Tok → ℕ → LineKind
by_token nought at = Foreign
by_token unit at = Foreign
by_token defined at = Foreign
by_token not at = Foreign
by_token and at = Foreign
by_token or at = Foreign
by_token opened at = Foreign
by_token closed at = Foreign
by_token (name x) at = by_word x (at - 1 + length x)
by_token other at = Foreign

abbrev pub by_tokens : List Placed → LineKind
by_tokens [] = Blank
by_tokens (p ∷ ps) = by_token p.0 p.1

abbrev pub kind_of : Bytes → LineKind
kind_of line = by_tokens (tokens_at false line 0)

abbrev pub next_line : ℕ → ℕ
next_line l = min (l + 1) (2 ^ 64 - 1)

-- The expressions of a condition, read from its tokens. Assumes nothing.
--   Expr                 an expression: a constant, a name that is asked for, a negation, a conjunction, a disjunction
--   is_and, is_or, is_close the token is `&&`, `||`, `)`
--   Out                  what a reader answers: an expression and the tokens behind it, or a refusal's number and the tokens from the one on that
--                        cannot go on
--   after o k            what k makes of an expression that was read, and of the tokens behind it
--   closing e ts         e with its closing parenthesis
--   inside_by, inside     the name in the parentheses of `defined(`, and the one that closes
--   name_by, name_due      what stands behind `defined`
--   term_by, first        a term, by the readers of what stands behind `!` and behind `(`
--   more, chain          parts joined by a token that op tells
--   ands_by, expr_by       terms joined by `&&`, and these by `||`, by the reader of a term
--   term l, ands_of l, expr l   a term, and-term and or-term inside which l more of `!` and `(` may stand around one place
--   ended, finished      nothing may stand behind the expression
--   parsed ts            the expression that the tokens are, or the refusal
use Rattle.std.specs.Prelude.{ℕ, zero, suc, Bool, true, false, cond, List, [], ◌∷◌, length, Ok, Err, Result}
use Rattle.text.specs.Tokens.{Bytes, Tok, nought, unit, defined, not, and, or, opened, closed, name, other}

pub data Expr : Type 0 where
  never : Expr
  always : Expr
  named : Bytes → Expr
  neg : Expr → Expr
  conj : Expr → Expr → Expr
  disj : Expr → Expr → Expr

abbrev pub is_and : Tok → Bool
is_and nought = false
is_and unit = false
is_and defined = false
is_and not = false
is_and and = true
is_and or = false
is_and opened = false
is_and closed = false
is_and (name x) = false
is_and other = false

abbrev pub is_or : Tok → Bool
is_or nought = false
is_or unit = false
is_or defined = false
is_or not = false
is_or and = false
is_or or = true
is_or opened = false
is_or closed = false
is_or (name x) = false
is_or other = false

abbrev pub is_close : Tok → Bool
is_close nought = false
is_close unit = false
is_close defined = false
is_close not = false
is_close and = false
is_close or = false
is_close opened = false
is_close closed = true
is_close (name x) = false
is_close other = false

-- An expression and the tokens behind it, or a refusal's number and the tokens from the one on that cannot go on.
abbrev pub Out : Type 0
Out = Result (Expr × List Tok) (ℕ × List Tok)

abbrev pub after : Out → (Expr → List Tok → Out) → Out
after (Ok p) k = k p.0 p.1
after (Err f) k = Err f

-- the closing parenthesis
abbrev pub closing : Expr → List Tok → Out
closing e [] = Err (14, [])
closing e (t ∷ r) = cond (is_close t) (Ok (e, r)) (Err (14, t ∷ r))

-- the name in the parentheses of `defined(`
abbrev pub inside_by : Tok → List Tok → Out
inside_by nought r = Err (13, nought ∷ r)
inside_by unit r = Err (13, unit ∷ r)
inside_by defined r = Err (13, defined ∷ r)
inside_by not r = Err (13, not ∷ r)
inside_by and r = Err (13, and ∷ r)
inside_by or r = Err (13, or ∷ r)
inside_by opened r = Err (13, opened ∷ r)
inside_by closed r = Err (13, closed ∷ r)
inside_by (name x) r = closing (named x) r
inside_by other r = Err (13, other ∷ r)

abbrev pub inside : List Tok → Out
inside [] = Err (13, [])
inside (t ∷ r) = inside_by t r

-- what stands behind `defined`
abbrev pub name_by : Tok → List Tok → Out
name_by nought r = Err (13, nought ∷ r)
name_by unit r = Err (13, unit ∷ r)
name_by defined r = Err (13, defined ∷ r)
name_by not r = Err (13, not ∷ r)
name_by and r = Err (13, and ∷ r)
name_by or r = Err (13, or ∷ r)
name_by opened r = inside r
name_by closed r = Err (13, closed ∷ r)
name_by (name x) r = Ok (named x, r)
name_by other r = Err (13, other ∷ r)

abbrev pub name_due : List Tok → Out
name_due [] = Err (13, [])
name_due (t ∷ r) = name_by t r

-- A term, where n reads what stands behind `!` and o what stands behind `(`.
abbrev pub term_by : (List Tok → Out) → (List Tok → Out) → Tok → List Tok → Out
term_by n o nought r = Ok (never, r)
term_by n o unit r = Ok (always, r)
term_by n o defined r = name_due r
term_by n o not r = n r
term_by n o and r = Err (14, and ∷ r)
term_by n o or r = Err (14, or ∷ r)
term_by n o opened r = o r
term_by n o closed r = Err (14, closed ∷ r)
term_by n o (name x) r = Err (15, name x ∷ r)
term_by n o other r = Err (14, other ∷ r)

abbrev pub first : (List Tok → Out) → (List Tok → Out) → List Tok → Out
first n o [] = Err (14, [])
first n o (t ∷ r) = term_by n o t r

-- Further parts, read by t, each behind a token that op tells; there are at most k.
abbrev pub more : (Tok → Bool) → (Expr → Expr → Expr) → (List Tok → Out) → ℕ → Expr → List Tok → Out
more op join t k e [] = Ok (e, [])
more op join t zero e (x ∷ r) = Ok (e, x ∷ r)
more op join t (suc k) e (x ∷ r) = cond (op x) (after (t r) (λ f s. more op join t k (join e f) s)) (Ok (e, x ∷ r))

abbrev pub chain : (Tok → Bool) → (Expr → Expr → Expr) → (List Tok → Out) → List Tok → Out
chain op join t ts = after (t ts) (λ e r. more op join t (length r) e r)

abbrev pub ands_by : (List Tok → Out) → List Tok → Out
ands_by t = chain is_and conj t

abbrev pub expr_by : (List Tok → Out) → List Tok → Out
expr_by t = chain is_or disj (ands_by t)

-- A term around which l more of `!` and `(` may stand inside.
abbrev pub term : ℕ → List Tok → Out
term zero ts = first (λ r. Err (16, not ∷ r)) (λ r. Err (16, opened ∷ r)) ts
term (suc l) ts = first (λ r. after (term l r) (λ e s. Ok (neg e, s))) (λ r. after (expr_by (λ s. term l s) r) closing) ts

abbrev pub ands_of : ℕ → List Tok → Out
ands_of l ts = ands_by (λ s. term l s) ts

abbrev pub expr : ℕ → List Tok → Out
expr l ts = expr_by (λ s. term l s) ts

-- nothing may stand behind the expression
abbrev pub ended : Expr → List Tok → Result Expr (ℕ × List Tok)
ended e [] = Ok e
ended e (t ∷ r) = Err (14, t ∷ r)

abbrev pub finished : Out → Result Expr (ℕ × List Tok)
finished (Ok p) = ended p.0 p.1
finished (Err f) = Err f

abbrev pub parsed : List Tok → Result Expr (ℕ × List Tok)
parsed ts = finished (expr 16 ts)

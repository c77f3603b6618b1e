-- The grammar as rules, and what is claimed of reading by it. Assumes nothing.
--   Part               a term; terms joined by `&&`; these joined by `||`
--   Derives p l ts e   by the rules the tokens ts are a part p that means e, with at most l of `!` and grouping parentheses around one place
--   Expression ts e    the same of a whole expression, with at most 16
--   Exact              reading answers an expression exactly where the rules have one, and that one
--   OneOnly           the rules give tokens one meaning at most
--   GoesOn u, GoesOnWithin l u   the tokens u can go on to an expression, with at most 16 levels or with at most l
--   Stops u n r        behind u the first of r, or the end, cannot stand
--   AtFirst           a refusal is at the first token that cannot go on
--   TermDue u, NameDue u   behind u a term can stand; a name can
--   BehindDefined u   the last of u is `defined`, or `defined (`
--   wrong_term r        the number of a refusal where a term is due and r stands
--   OneTooDeep u r   the first of r could stand behind u, were there one level more
--   Number u n r       the number n of a refusal behind u, where r is left, by what is due there: 13 where a name is, behind `defined` or `defined (`; where a term is
--                      15 for a name, 16 for the `!` or `(` that is one too deep, else 14; 14 where neither is
--   Numbered           every refusal has that number
use Rattle.std.specs.Prelude.{◌≡◌, ℕ, suc, ◌⊎◌, List, [], ◌∷◌, ◌++◌, Ok, Err}
use Rattle.text.specs.Tokens.{Bytes, Tok, nought, unit, defined, not, and, or, opened, closed, name, other}
use Rattle.expressions.specs.Grammar.{Expr, never, always, named, neg, conj, disj, parsed}

pub data Part : Type 0 where
  a-term ands ors : Part

pub data Derives : Part → ℕ → List Tok → Expr → Type 0 where
  zero_is : {l : ℕ} → Derives a-term l (nought ∷ []) never
  one_is : {l : ℕ} → Derives a-term l (unit ∷ []) always
  defined_is : {l : ℕ} (x : Bytes) → Derives a-term l (defined ∷ name x ∷ []) (named x)
  wrapped_is : {l : ℕ} (x : Bytes) → Derives a-term l (defined ∷ opened ∷ name x ∷ closed ∷ []) (named x)
  not_is : {l : ℕ} {u : List Tok} {e : Expr} → Derives a-term l u e → Derives a-term (suc l) (not ∷ u) (neg e)
  group_is : {l : ℕ} (u : List Tok) {e : Expr} → Derives ors l u e → Derives a-term (suc l) (opened ∷ (u ++ closed ∷ [])) e
  and_one : {l : ℕ} {u : List Tok} {e : Expr} → Derives a-term l u e → Derives ands l u e
  and_more : {l : ℕ} (u v : List Tok) {e f : Expr} → Derives ands l u e → Derives a-term l v f → Derives ands l (u ++ and ∷ v) (conj e f)
  or_one : {l : ℕ} {u : List Tok} {e : Expr} → Derives ands l u e → Derives ors l u e
  or_more : {l : ℕ} (u v : List Tok) {e f : Expr} → Derives ors l u e → Derives ands l v f → Derives ors l (u ++ or ∷ v) (disj e f)

abbrev pub Expression : List Tok → Expr → Type 0
Expression ts e = Derives ors 16 ts e

abbrev pub Exact : Type 0
Exact = (ts : List Tok) (e : Expr) → (parsed ts ≡ Ok e → Expression ts e) × (Expression ts e → parsed ts ≡ Ok e)

abbrev pub OneOnly : Type 0
OneOnly = (ts : List Tok) (e f : Expr) → Expression ts e → Expression ts f → e ≡ f

abbrev pub GoesOn : List Tok → Type 0
GoesOn u = (w : List Tok) × (e : Expr) × Expression (u ++ w) e

-- Behind u the first of r cannot stand, whatever follows it, and the refusal is always this one; if there is none, u is no expression.
abbrev pub Stops : List Tok → ℕ → List Tok → Type 0
Stops u n [] = (e : Expr) → Expression u e → ⊥
Stops u n (x ∷ r) = (v : List Tok) → (parsed (u ++ x ∷ v) ≡ Err (n, x ∷ v)) × ((e : Expr) → Expression (u ++ x ∷ v) e → ⊥)

abbrev pub AtFirst : Type 0
AtFirst = (ts : List Tok) (n : ℕ) (r : List Tok) → parsed ts ≡ Err (n, r)
    → (u : List Tok) × (ts ≡ u ++ r) × GoesOn u × Stops u n r

abbrev pub GoesOnWithin : ℕ → List Tok → Type 0
GoesOnWithin l u = (w : List Tok) × (e : Expr) × Derives ors l (u ++ w) e

-- `0` is a term that can stand wherever one can
abbrev pub TermDue : List Tok → Type 0
TermDue u = GoesOn (u ++ nought ∷ [])

abbrev pub NameDue : List Tok → Type 0
NameDue u = (x : Bytes) × GoesOn (u ++ name x ∷ [])

abbrev pub BehindDefined : List Tok → Type 0
BehindDefined u = (w : List Tok) × ((u ≡ w ++ defined ∷ []) ⊎ (u ≡ w ++ defined ∷ opened ∷ []))

abbrev pub wrong_term : List Tok → ℕ
wrong_term [] = 14
wrong_term (nought ∷ r) = 14
wrong_term (unit ∷ r) = 14
wrong_term (defined ∷ r) = 14
wrong_term (not ∷ r) = 16
wrong_term (and ∷ r) = 14
wrong_term (or ∷ r) = 14
wrong_term (opened ∷ r) = 16
wrong_term (closed ∷ r) = 14
wrong_term (name x ∷ r) = 15
wrong_term (other ∷ r) = 14

abbrev pub OneTooDeep : List Tok → List Tok → Type 0
OneTooDeep u [] = ⊥
OneTooDeep u (x ∷ r) = GoesOnWithin 17 (u ++ x ∷ [])

pub data Number (u : List Tok) (n : ℕ) (r : List Tok) : Type 0 where
  no_name : n ≡ 13 → NameDue u → BehindDefined u → (TermDue u → ⊥) → Number u n r
  no_term : n ≡ wrong_term r → TermDue u → (NameDue u → ⊥) → (n ≡ 16 → OneTooDeep u r) → Number u n r
  surplus : n ≡ 14 → (TermDue u → ⊥) → (NameDue u → ⊥) → Number u n r

abbrev pub Numbered : Type 0
Numbered = (u : List Tok) (n : ℕ) (r : List Tok) → parsed (u ++ r) ≡ Err (n, r) → Number u n r

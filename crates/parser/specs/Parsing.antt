-- What the parser's functions do. Assumes nothing.
--   name_or, name_first  the name that stands first, read, or the refusal of what stands there
--   ahead p            the tokens that are not read yet
--   line_of p           the bytes of the line
--   written p          the steps so far
--   Begun o p          all tokens of the operand o are ahead, and no step is written
--   Run p q s is       from p to q the tokens s were read and the steps `is` written
--   Read w p q e r     from p to q an expression e was read and its steps w e written, and r is left
--   Refused p f n r    the tokens ahead are refused by n where r is left, and f says so with the place
--   Outcome w p q r z  the answer r, and the way from p to q, are what the grammar's answer z says
--   Completed p q r z  the same of all that is ahead
--   Advanced p q       one token was read
use Rattle.std.specs.Prelude.{◌≡◌, ℕ, suc, ◌≤◌, List, [], ◌∷◌, ◌++◌, length, Ok, Err, Result}
use Rattle.text.specs.Tokens.{Bytes, Tok, nought, unit, defined, not, and, or, opened, closed, name, other, Placed}
use Rattle.expressions.specs.Grammar.{Expr, named, Out}
use Rattle.expressions.specs.Conditions.{kinds, place_or, Item, items, postfix}
use Rattle.expressions.specs.Operands.{tokens_in}
use Rattle.expressions.specs.Faults.{refused, described}
use Rattle.expressions.specs.declared.operand.Operand.{Operand}
use Rattle.expressions.specs.declared.fault.ExpressionFault.{ExpressionFault}
use Rattle.parser.specs.Ahead.{from}
use Rattle.parser.specs.declared.descent.Parser.{Parser}

abbrev pub name_or : Tok → List Tok → Out
name_or nought r = Err (13, nought ∷ r)
name_or unit r = Err (13, unit ∷ r)
name_or defined r = Err (13, defined ∷ r)
name_or not r = Err (13, not ∷ r)
name_or and r = Err (13, and ∷ r)
name_or or r = Err (13, or ∷ r)
name_or opened r = Err (13, opened ∷ r)
name_or closed r = Err (13, closed ∷ r)
name_or (name x) r = Ok (named x, r)
name_or other r = Err (13, other ∷ r)

abbrev pub name_first : List Tok → Out
name_first [] = Err (13, [])
name_first (t ∷ r) = name_or t r

abbrev pub ahead : Parser → List Placed
ahead p = from p.token p.tokens

abbrev pub line_of : Parser → Bytes
line_of p = p.tokens.line.now

abbrev pub written : Parser → List Item
written p = items p.steps.items

pub record Begun (o : Operand) (p : Parser) : Type 0 where
  pub ahead : ahead p ≡ tokens_in o
  pub line : line_of p ≡ o.line.now
  pub number : p.number ≡ o.number
  pub written : written p ≡ []

pub record Run (p q : Parser) (s : List Placed) (is : List Item) : Type 0 where
  pub line : line_of q ≡ line_of p
  pub number : q.number ≡ p.number
  pub ahead : ahead p ≡ s ++ ahead q
  pub written : written q ≡ written p ++ is

abbrev pub Advanced : Parser → Parser → Type 0
Advanced p q = (x : Placed) × Run p q (x ∷ []) []

pub record Read (w : Expr → List Item) (p q : Parser) (e : Expr) (r : List Tok) : Type 0 where
  pub past : List Placed
  pub run : Run p q past (w e)
  pub few : length (w e) ≤ length past
  pub rest : kinds (ahead q) ≡ r

pub record Refused (p : Parser) (f : ExpressionFault) (n : ℕ) (r : List Tok) : Type 0 where
  pub past : List Placed
  pub behind : List Placed
  pub split : ahead p ≡ past ++ behind
  pub rest : kinds behind ≡ r
  pub fault : described f ≡ refused n p.number (place_or (suc (length (line_of p))) behind)

abbrev pub Outcome : (Expr → List Item) → Parser → Parser → Result (Unit {0}) ExpressionFault → Out → Type 0
Outcome w p q (Ok u) (Ok o) = Read w p q o.0 o.1
Outcome w p q (Ok u) (Err g) = ⊥
Outcome w p q (Err f) (Ok o) = ⊥
Outcome w p q (Err f) (Err g) = Refused p f g.0 g.1

abbrev pub Completed : Parser → Parser → Result (Unit {0}) ExpressionFault → Result Expr (ℕ × List Tok) → Type 0
Completed p q (Ok u) (Ok e) = (line_of q ≡ line_of p) × (written q ≡ written p ++ postfix e)
Completed p q (Ok u) (Err g) = ⊥
Completed p q (Err f) (Ok e) = ⊥
Completed p q (Err f) (Err g) = Refused p f g.0 g.1

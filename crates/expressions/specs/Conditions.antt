-- The condition that stands in a line, its refusal with the place, and its steps in the order in which they are worked out. Assumes nothing.
--   kinds ps               the tokens without their places
--   place_or z ps           the place of the first token, or z
--   located z ps r         the answer r over the tokens ps with the byte of a refusal in place of the tokens that it leaves; z is one past the line
--   condition_at c line from   the expression from offset `from` on, or the number of the refusal and its byte: the place of the first token that
--                          cannot go on, or one past the line
--   Item                   a step: a constant, a name with its bytes, or an operation on what the steps before it left
--   postfix e              the steps of e: operands first, left to right
--   item s                 the step s of the code
--   items ss               the same for several
--   alone, name_of, name_alone   a name and no token behind it
--   only_name c line from   the one name from offset `from` on, or the number and the byte of the refusal: 13 where no name stands, 14 at a token behind it
--   first_name c line from  the name that stands first from offset `from` on, whatever is behind it, or the number and the byte of the refusal
--   surplus_at ps           the refusal of the first token
--   nothing_at c line from  none, or the number and the byte of the refusal of the first token from offset `from` on
use Rattle.std.specs.Prelude.{ℕ, suc, ◌-◌, Bool, List, [], ◌∷◌, ◌++◌, map, length, drop, Some, None, Ok, Err, Option, Result}
use Rattle.text.specs.Tokens.{Bytes, Tok, nought, unit, defined, not, and, or, opened, closed, name, other, Placed, tokens_at}
use Rattle.text.specs.Pulling.{place_or as place_in}
use Rattle.expressions.specs.Grammar.{Expr, never, always, named, neg, conj, disj, parsed}
use Rattle.expressions.specs.declared.condition.Step.{Step}
use Rattle.expressions.specs.declared.condition.Step.TheVariants.{Never, Always, Defined, Not, And, Or}

abbrev pub kinds : List Placed → List Tok
kinds [] = []
kinds (p ∷ ps) = p.0 ∷ kinds ps

abbrev pub place_or : ℕ → List Placed → ℕ
place_or z ps = place_in z ps

abbrev pub located : ℕ → List Placed → Result Expr (ℕ × List Tok) → Result Expr (ℕ × ℕ)
located z ps (Ok e) = Ok e
located z ps (Err f) = Err (f.0, place_or z (drop (length ps - length f.1) ps))

abbrev pub condition_at : Bool → Bytes → ℕ → Result Expr (ℕ × ℕ)
condition_at c line from = located (suc (length line)) (tokens_at c line from) (parsed (kinds (tokens_at c line from)))

pub data Item : Type 0 where
  false-item true-item not-item and_item or-item : Item
  name_item : Bytes → Item

abbrev pub postfix : Expr → List Item
postfix never = false-item ∷ []
postfix always = true-item ∷ []
postfix (named x) = name_item x ∷ []
postfix (neg e) = postfix e ++ not-item ∷ []
postfix (conj e f) = postfix e ++ (postfix f ++ and_item ∷ [])
postfix (disj e f) = postfix e ++ (postfix f ++ or-item ∷ [])

abbrev pub item : Step → Item
item Never = false-item
item Always = true-item
item (Defined x) = name_item x.now
item Not = not-item
item And = and_item
item Or = or-item

abbrev pub items : List Step → List Item
items steps = map item steps

abbrev pub alone : Bytes → List Placed → Result Bytes (ℕ × ℕ)
alone x [] = Ok x
alone x (p ∷ ps) = Err (14, p.1)

abbrev pub name_of : Tok → ℕ → List Placed → Result Bytes (ℕ × ℕ)
name_of nought at ps = Err (13, at)
name_of unit at ps = Err (13, at)
name_of defined at ps = Err (13, at)
name_of not at ps = Err (13, at)
name_of and at ps = Err (13, at)
name_of or at ps = Err (13, at)
name_of opened at ps = Err (13, at)
name_of closed at ps = Err (13, at)
name_of (name x) at ps = alone x ps
name_of other at ps = Err (13, at)

abbrev pub name_alone : ℕ → List Placed → Result Bytes (ℕ × ℕ)
name_alone z [] = Err (13, z)
name_alone z (p ∷ ps) = name_of p.0 p.1 ps

abbrev pub only_name : Bool → Bytes → ℕ → Result Bytes (ℕ × ℕ)
only_name c line from = name_alone (suc (length line)) (tokens_at c line from)

abbrev pub name_first : ℕ → List Placed → Result Bytes (ℕ × ℕ)
name_first z [] = Err (13, z)
name_first z (p ∷ ps) = name_of p.0 p.1 []

abbrev pub first_name : Bool → Bytes → ℕ → Result Bytes (ℕ × ℕ)
first_name c line from = name_first (suc (length line)) (tokens_at c line from)

abbrev pub surplus_at : List Placed → Option (ℕ × ℕ)
surplus_at [] = None
surplus_at (p ∷ ps) = Some (14, p.1)

abbrev pub nothing_at : Bool → Bytes → ℕ → Option (ℕ × ℕ)
nothing_at c line from = surplus_at (tokens_at c line from)

-- The tokens of a line as they are pulled, one by one. Assumes nothing.
--   part_of t         the part of the line that a token of the code holds
--   bytes t          the bytes of that part
--   place t          the place of its first byte
--   placed t         the token by its sort, with its place; at the line's end there is none
--   begins at s      the token that begins s, at the place `at`; an empty s has none
--   in_comment s      how many bytes stand before the end of the block comment that s is in, with that end; all where it has none
--   left t           the tokens that are still to be pulled
--   place_or z ps     the place of the first token, or z
--   Pulls o ps qs    of the tokens ps the first is o, and qs are left; none is pulled only where there is none
use Rattle.std.specs.Prelude.{◌≡◌, ℕ, suc, cond, ◌&&◌, List, [], ◌∷◌, length, Some, None, Option, ◌==◌, slice_index}
use Rattle.text.specs.declared.scanner.Part.{Part}
use Rattle.text.specs.declared.scanner.Token.{Token}
use Rattle.text.specs.declared.scanner.Token.TheVariants.{Zero, One, Defined, Not, And, Or, Open, Close, Name, Other, End}
use Rattle.text.specs.declared.scanner.Tokens.{Tokens}
use Rattle.text.specs.Tokens.{Bytes, Placed, nought, unit, defined, not, and, or, opened, closed, name, other, front, tokens_at}

abbrev pub part_of : Token → Part
part_of (Zero p) = p
part_of (One p) = p
part_of (Defined p) = p
part_of (Not p) = p
part_of (And p) = p
part_of (Or p) = p
part_of (Open p) = p
part_of (Close p) = p
part_of (Name p) = p
part_of (Other p) = p
part_of (End p) = p

abbrev pub bytes : Token → Bytes
bytes t = (part_of t).text.now

abbrev pub place : Token → ℕ
place t = (part_of t).at

abbrev pub placed : Token → Option Placed
placed (Zero p) = Some (nought, p.at)
placed (One p) = Some (unit, p.at)
placed (Defined p) = Some (defined, p.at)
placed (Not p) = Some (not, p.at)
placed (And p) = Some (and, p.at)
placed (Or p) = Some (or, p.at)
placed (Open p) = Some (opened, p.at)
placed (Close p) = Some (closed, p.at)
placed (Name p) = Some (name p.text.now, p.at)
placed (Other p) = Some (other, p.at)
placed (End p) = None

abbrev pub begins : ℕ → Bytes → Option Placed
begins at s = cond (length s == 0) None (Some ((front s).0, at))

abbrev pub in_comment : Bytes → ℕ
in_comment [] = 0
in_comment (x ∷ r) = cond (x == 42 && slice_index r 0 == 47) 2 (suc (in_comment r))

abbrev pub left : Tokens → List Placed
left t = tokens_at t.comments t.line.now t.next

abbrev pub place_or : ℕ → List Placed → ℕ
place_or z [] = z
place_or z (p ∷ ps) = p.1

abbrev pub Pulls : Option Placed → List Placed → List Placed → Type 0
Pulls None ps qs = (ps ≡ []) × (qs ≡ [])
Pulls (Some p) ps qs = ps ≡ p ∷ qs

-- What the shape of the code answers. Assumes nothing.
--   shape_of s         the shape that the shape s of the code holds
--   beginning names   the shape before the first line; none where there are more switches than names may have an entry
--   start_of o         what the code begins with
--   shown_shape n s y  the shape after a line of number n that the code sees as y, or the first of the refusals 17 to 20
--   Proper x          an `if` has a condition: only a further block asks nothing
--   Reads s s' z r    from s to s' the answer r is what the definition's z says: the shape behind the line, or the same refusal, and then nothing changed
use Rattle.std.specs.Prelude.{◌≡◌, ℕ, true, false, cond, List, reverse, length, Some, None, Ok, Err, Option, Result, nat_le}
use Rattle.faults.specs.declared.Refusal.{Refusal}
use Rattle.text.specs.Tokens.{Bytes}
use Rattle.names.specs.Names.{texts}
use Rattle.sources.specs.declared.fault.ConditionalFault.{ConditionalFault}
use Rattle.sources.specs.Classified.{Line, plain, name, if, elif, endif}
use Rattle.sources.specs.Answers.{Seen, plainly, naming, opening, further, rest, ending}
use Rattle.sources.specs.Faults.{conditional_fault}
use Rattle.conditionals.specs.Shape.{Shape, is_else, opened, furthered, ended, entered, begun}
use Rattle.conditionals.specs.declared.Shape as code

abbrev pub shape_of : code.Shape → Shape
shape_of s = record { chains = reverse s.chains.items; blocks = s.blocks; names = texts s.names.items }

abbrev pub beginning : List Bytes → Option Shape
beginning names = cond (nat_le (length names) 64) (Some (begun names)) None

abbrev pub start_of : Option code.Shape → Option Shape
start_of None = None
start_of (Some s) = Some (shape_of s)

abbrev pub shown_shape : ℕ → Shape → Seen → Result Shape Refusal
shown_shape n s plainly = Ok s
shown_shape n s (naming x v) = entered n x v s
shown_shape n s (opening e) = opened n s
shown_shape n s (further e) = furthered n false s.chains s
shown_shape n s rest = furthered n true s.chains s
shown_shape n s ending = ended n s.chains s

abbrev pub Proper : Line → Type 0
Proper (plain l) = Unit {0}
Proper (name x v l) = Unit {0}
Proper (if d) = is_else d.when ≡ false
Proper (elif d) = Unit {0}
Proper (endif l) = Unit {0}

abbrev pub Reads : code.Shape → code.Shape → Result Shape Refusal → Result (Unit {0}) ConditionalFault → Type 0
Reads s s' z (Ok u) = z ≡ Ok (shape_of s')
Reads s s' z (Err f) = (z ≡ Err (conditional_fault f)) × (s' ≡ s)

-- What classifying a line answers. Assumes nothing.
--   Seen              a line as the code sees it: a condition by its steps
--   shown s y         what the line y of the code is, where s is the line's bytes without the line feed
--   seen x            what the line x of the definition is
--   Classifies l z r  the answer r on the line l is what the definition's z says: the same line, or the same refusal
use Rattle.std.specs.Prelude.{◌≡◌, Bool, true, false, List, Ok, Err, Result}
use Rattle.faults.specs.declared.Refusal.{Refusal}
use Rattle.text.specs.Tokens.{Bytes}
use Rattle.expressions.specs.Conditions.{Item, items, postfix}
use Rattle.expressions.specs.declared.condition.Condition.{Condition}
use Rattle.sources.specs.declared.fault.SourceFault.{SourceFault}
use Rattle.sources.specs.declared.line.Line.{Line}
use Rattle.sources.specs.declared.line.Line.TheVariants as code
use Rattle.sources.specs.Classified as definition
use Rattle.sources.specs.Faults.{described}

pub data Seen : Type 0 where
  plainly : Seen
  naming : Bytes → Bool → Seen
  opening : List Item → Seen
  further : List Item → Seen
  rest : Seen
  ending : Seen

abbrev pub steps_of : Condition → List Item
steps_of k = items k.steps.items

abbrev pub shown : Line → Seen
shown code.Plain = plainly
shown (code.Define x) = naming x.now true
shown (code.Undef x) = naming x.now false
shown (code.If k) = opening (steps_of k)
shown (code.Elif k) = further (steps_of k)
shown code.Else = rest
shown code.Endif = ending

abbrev pub asked : definition.Test → (List Item → Seen) → Seen
asked (definition.given e) f = f (postfix e)
asked definition.otherwise f = rest

abbrev pub seen : definition.Line → Seen
seen (definition.plain l) = plainly
seen (definition.name x v l) = naming x v
seen (definition.if d) = asked d.when opening
seen (definition.elif d) = asked d.when further
seen (definition.endif l) = ending

abbrev pub Classifies : Result definition.Line Refusal → Result Line SourceFault → Type 0
Classifies (Ok x) (Ok y) = shown y ≡ seen x
Classifies (Ok x) (Err f) = ⊥
Classifies (Err e) (Ok y) = ⊥
Classifies (Err e) (Err f) = described f ≡ e

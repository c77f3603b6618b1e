-- What reading one line answers. Assumes nothing.
--   due p s                what the definition makes of the line p, where the lines before it leave the shape s
--   LineRead p s s' y      the line y of the code is the definition's line x, which has the bytes of p, and s' is the shape behind it
--   LineOutcome p s s' r   accepted: the same; refused: the definition's refusal, and the shape is as it was
use Rattle.std.specs.Prelude.{◌≡◌, Ok, Err, Result}
use Rattle.faults.specs.declared.Refusal.{Refusal}
use Rattle.sources.specs.Classified as definition
use Rattle.sources.specs.Answers.{shown, seen}
use Rattle.sources.specs.Faults.{described}
use Rattle.sources.specs.declared.place.SourceLine.{SourceLine}
use Rattle.sources.specs.declared.fault.SourceFault.{SourceFault}
use Rattle.sources.specs.declared.line.Line.{Line}
use Rattle.conditionals.specs.Shape.{Shape}
use Rattle.conditionals.specs.Reading.{read_line}
use Rattle.conditionals.specs.Answers.{shape_of, Proper}
use Rattle.conditionals.specs.declared.Shape as code

abbrev pub due : SourceLine → code.Shape → Result (definition.Line × Shape) Refusal
due p s = read_line p.last p.in_comment p.number (shape_of s) p.text.now

pub record LineRead (p : SourceLine) (s s' : code.Shape) (y : Line) : Type 0 where
  pub line : definition.Line
  pub is : due p s ≡ Ok (line, shape_of s')
  pub same : shown y ≡ seen line
  pub proper : Proper line
  pub raw : definition.raw_of line ≡ p.text.now

abbrev pub LineOutcome : SourceLine → code.Shape → code.Shape → Result Line SourceFault → Type 0
LineOutcome p s s' (Ok y) = LineRead p s s' y
LineOutcome p s s' (Err f) = (due p s ≡ Err (described f)) × (s' ≡ s)

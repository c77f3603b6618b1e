-- Writing the output line by line. Assumes nothing.
--   read_placed s ps      reading the lines ps, each at its place, where s is the shape before them
--   rendered ps s σ       the output of the lines ps, where s is the shape and σ the state before them; or their first refusal
--   Left t bs r           the whole output is t: the bytes bs, and behind them r
--   Going t r ps          of the whole output t the run r has written what it holds, and the lines ps are left; its shape and state stand for those of the
--                         definition
--   LineWritten p r r' z  the line p leads from one such run to the next; or it is refused, and then the whole is refused so
--   Writes text r r' z    from a run before the first line on, the run behind the last one holds the whole output
use Rattle.std.specs.Prelude.{◌≡◌, false, List, [], ◌∷◌, ◌++◌, length, Ok, Err, vec_items, Result}
use Rattle.faults.specs.declared.Refusal.{Refusal}
use Rattle.text.specs.Tokens.{Bytes}
use Rattle.sources.specs.Lines.{lines, joined}
use Rattle.sources.specs.Places.{Placed, placed, placed_of}
use Rattle.sources.specs.Classified.{Line, then, changed}
use Rattle.sources.specs.declared.place.SourceLine.{SourceLine}
use Rattle.conditionals.specs.Shape.{Shape}
use Rattle.conditionals.specs.Reading.{read_line}
use Rattle.conditionals.specs.Answers.{shape_of}
use Rattle.preprocessor.specs.Plain.{State, output}
use Rattle.preprocessor.specs.Represented.{Represents}
use Rattle.preprocessing.specs.declared.Run.{Run}
use Rattle.preprocessing.specs.declared.fault.PreprocessingFault.{PreprocessingFault}
use Rattle.preprocessing.specs.Faults.{described}
use Rattle.preprocessing.specs.Outcome.{Told}

abbrev pub Answer : Type 0
Answer = Result Bytes Refusal

abbrev pub read_placed : Shape → List Placed → Result (List Line) Refusal
read_placed s [] = Ok []
read_placed s (p ∷ ps) =
    then (read_line p.last p.in_comment p.number s p.text) (λ q.
    then (read_placed q.1 ps) (λ xs. Ok (q.0 ∷ xs)))

abbrev pub rendered : List Placed → Shape → State → Answer
rendered ps s σ = changed (λ xs. joined (output xs σ)) (read_placed s ps)

abbrev pub Left : Answer → Bytes → Answer → Type 0
Left t bs r = t ≡ changed (λ more. bs ++ more) r

pub record Going (t : Answer) (r : Run) (ps : List Placed) : Type 0 where
  pub state : State
  pub stands : Represents (shape_of r.shape).names r.state state
  pub deep : length (shape_of r.shape).chains ≡ length state.stack
  pub left : Left t (vec_items r.output) (rendered ps (shape_of r.shape) state)

abbrev pub LineWritten : SourceLine → Run → Run → Result (Unit {0}) PreprocessingFault → Type 0
LineWritten p r r' (Ok u) = (t : Answer) (ps : List Placed) → Going t r (placed_of p ∷ ps) → Going t r' ps
LineWritten p r r' (Err f) = (t : Answer) (ps : List Placed) → Going t r (placed_of p ∷ ps) → Told t (described f)

abbrev pub Writes : Bytes → Run → Run → Result (Unit {0}) PreprocessingFault → Type 0
Writes text r r' (Ok u) = (t : Answer) → Going t r (placed false 1 (lines text)) → t ≡ Ok (vec_items r'.output)
Writes text r r' (Err f) = (t : Answer) → Going t r (placed false 1 (lines text)) → Told t (described f)

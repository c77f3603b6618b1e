use Rattle.std.proofs.Common.{◌≡◌, ◌≤◌, cond, List, [], ◌++◌, length, vec_items, sym, ap, ◌∙◌, subst, subst₂, arith}
use Rattle.text.specs.Tokens.{Bytes}
use Rattle.sources.specs.Classified.{Line}
use Rattle.sources.specs.Answers.{shown, seen}
use Rattle.conditionals.specs.Answers.{shape_of}
use Rattle.conditionals.specs.declared.Shape as shapes
use Rattle.reading.specs.Lines.{LineRead}
use Rattle.preprocessor.specs.Plain.{State, step}
use Rattle.preprocessor.specs.Represented.{Represents, Ready}
use Rattle.preprocessor.specs.declared.state.State as states
use Rattle.preprocessing.specs.declared.Run.{Run}
use Rattle.preprocessing.proofs.Turns.{turn, length_texts, written, unwritten}
use Rattle.preprocessing.proofs.Run.write_line.Goals as goal
use Rattle.preprocessing.proofs.Run.write_line.Goals.{then-keeps+in_ok-extend_from_slice, else-keeps}

pub returns : goal.returns
returns c t ps g =
    let old = c.args.self.now in
    let new = c.if-keeps.self in
    let bs = vec_items old.output in
    let line = c.args.line.now.text.now in
    let joined : (new.shape ≡ c.read_line.new.shape) × (new.state ≡ old.state) × (vec_items new.output ≡ bs ++ cond c.keeps.result line []) =
    elim c.if-keeps.branch [
      | then-keeps+in_ok-extend_from_slice w ↦ (
        ap (λ (r : Run). r.shape) w.self-is,
        ap (λ (r : Run). r.state) w.self-is,
        written (vec_items new.output) bs line c.keeps.result w.if-keeps.true (ap (λ (r : Run). vec_items r.output) w.self-is ∙ w.in_ok-extend_from_slice.ensures.items),
      )
      | else-keeps w ↦ (
        ap (λ (r : Run). r.shape) w.self-is,
        ap (λ (r : Run). r.state) w.self-is,
        unwritten (vec_items new.output) bs line c.keeps.result w.if-keeps.false (ap (λ (r : Run). vec_items r.output) w.self-is),
      )
    ] in
    let names = c.names.ensures in
    let few : length (shape_of new.shape).names ≤ 64 = omega (arith, ap length names.value, length_texts c.names.result.now, names.bound) in
    turn c.args.line.now old _ c.in_ok-read.read t ps c.keeps.result
    (subst (λ (s : shapes.Shape). LineRead c.args.line.now old.shape s c.in_ok-read.read) (sym joined.0) c.in_ok-read.ensures)
    few c.keeps.ensures
    (subst₂ (λ (q : states.State) (ns : List Bytes). (σ : State) (x : Line) → shown c.in_ok-read.read ≡ seen x → Ready ns σ x → Represents ns q σ → Represents ns c.step.new.self (step σ x)) joined.1 names.value c.step.ensures)
    joined.2 g

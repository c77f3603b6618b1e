use Rattle.std.proofs.Common.{Err, Result, sym, refl, ap, ◌∙◌, subst}
use Rattle.std.proofs.lemmas.Result.{err_from_is_err_and}
use Rattle.sources.specs.declared.fault.SourceFault.{SourceFault}
use Rattle.sources.specs.declared.line.Line.{Line}
use Rattle.reading.specs.Lines.{LineOutcome}
use Rattle.reading.proofs.Outcomes.{accepted, refused, out_of_place}
use Rattle.reading.proofs.read_line.Goals as goal

pub returns-in_err-read : goal.returns-in_err-read
returns-in_err-read c =
    let p = err_from_is_err_and c.from_residual.result c.from_residual.ensures.1 in
    subst (λ (r : Result Line SourceFault). LineOutcome c.args.line.now c.args.shape.now c.args.shape.now r) (sym (p.1 ∙ ap Err p.2))
    (refused c.args.line.now c.args.shape.now c.in_err-read.field-0.0 c.in_err-read.ensures, refl)

pub returns-in_err-read-2 : goal.returns-in_err-read-2
returns-in_err-read-2 c =
    let p = err_from_is_err_and c.from_residual-in_err-read-2.result c.from_residual-in_err-read-2.ensures.1 in
    subst (λ (r : Result Line SourceFault). LineOutcome c.args.line.now c.args.shape.now c.read.new.self r) (sym (p.1 ∙ ap Err p.2))
    (out_of_place c.args.line.now c.args.shape.now c.read.new.self c.in_ok-read.read c.in_err-read-2.field-0.0 c.in_ok-read.ensures c.in_err-read-2.ensures.lines)

pub returns : goal.returns
returns c =
    accepted c.args.line.now c.args.shape.now c.read.new.self c.in_ok-read.read tt c.in_ok-read.ensures c.in_ok-read-2.ensures.lines

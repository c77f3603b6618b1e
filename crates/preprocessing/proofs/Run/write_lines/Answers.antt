use Rattle.std.proofs.Common.{Err, sym, ap, ◌∙◌, subst}
use Rattle.std.proofs.lemmas.Result.{err_from_is_err_and}
use Rattle.sources.specs.Places.{left_of}
use Rattle.preprocessing.specs.Lines.{Going, Writes}
use Rattle.preprocessing.proofs.Turns.{finished}
use Rattle.preprocessing.proofs.Run.write_lines.Goals as goal

pub returns-in_err-write_line : goal.returns-in_err-write_line
returns-in_err-write_line c =
    let l = c.loop-line in
    let p = err_from_is_err_and c.from_residual.result c.from_residual.ensures.1 in
    subst (Writes c.args.source.now c.args.self.now c.write_line.new.self) (sym (p.1 ∙ ap Err p.2))
    (λ t h. c.in_err-write_line.ensures t (left_of c.next.new.self) (subst (Going t l.self) c.in-Some.ensures.steps (l.invariant.2 t h)))

pub returns : goal.returns
returns c t h = finished t c.loop-line.self (left_of c.loop-line.line-iterator) c.in-None.ensures.steps.0 (c.loop-line.invariant.2 t h)

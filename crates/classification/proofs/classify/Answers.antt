use Rattle.std.proofs.Common.{Err, sym, ap, ◌∙◌}
use Rattle.std.proofs.lemmas.Result.{err_from_is_err_and}
use Rattle.classification.proofs.Chosen.{line_refused, line_plain, line_made, line_wrong}
use Rattle.classification.proofs.classify.Goals as goal

pub returns-in_err-check_line : goal.returns-in_err-check_line
returns-in_err-check_line c =
    let p = err_from_is_err_and c.from_residual.result c.from_residual.ensures.1 in
    line_refused c.args.line.now.last c.args.line.now.in_comment c.args.line.now.number c.args.line.now.text.now c.directive_of-found.result c.is_conditional.result
    c.directive_of-found.ensures c.is_conditional.ensures
    c.in_err-check_line.field-0.0 c.from_residual.result c.in_err-check_line.ensures (p.1 ∙ ap Err p.2)

pub returns-in_err-directive_line-in-Some : goal.returns-in_err-directive_line-in-Some
returns-in_err-directive_line-in-Some c =
    let f = c.from_residual-in_err-directive_line-in-Some in
    let p = err_from_is_err_and f.result f.ensures.1 in
    line_wrong c.args.line.now.last c.args.line.now.in_comment c.args.line.now.number c.args.line.now.text.now c.directive_of-found.result c.is_conditional.result
    c.directive_of-found.ensures c.is_conditional.ensures c.in_ok-check_line.ensures
    c.in-Some.found (sym c.in-Some.is) c.in_err-directive_line-in-Some.field-0.0 f.result (p.1 ∙ ap Err p.2) c.in_err-directive_line-in-Some.ensures

pub returns-in_ok-directive_line-in-Some : goal.returns-in_ok-directive_line-in-Some
returns-in_ok-directive_line-in-Some c =
    line_made c.args.line.now.last c.args.line.now.in_comment c.args.line.now.number c.args.line.now.text.now c.directive_of-found.result c.is_conditional.result
    c.directive_of-found.ensures c.is_conditional.ensures c.in_ok-check_line.ensures
    c.in-Some.found (sym c.in-Some.is) c.in_ok-directive_line-in-Some.field-0 c.in_ok-directive_line-in-Some.ensures

pub returns-in-None : goal.returns-in-None
returns-in-None c =
    line_plain c.args.line.now.last c.args.line.now.in_comment c.args.line.now.number c.args.line.now.text.now c.directive_of-found.result c.is_conditional.result
    c.directive_of-found.ensures c.is_conditional.ensures c.in_ok-check_line.ensures (sym c.in-None.is)

use Rattle.std.proofs.Common.{◌≡◌, Some, None, ◌∙◌}
use Rattle.directives.specs.Directives.{past}
use Rattle.directives.proofs.Runs.{behind_run}
use Rattle.directives.proofs.Lines.{finds, found_by, found_none, rest_within}
use Rattle.directives.proofs.find.Goals as goal

pub returns-in_err-tail : goal.returns-in_err-tail
returns-in_err-tail c =
    let l = c.args.line.now in
    let f = finds l _ (c.from_residual.ensures ∙ found_none l c.after_gap.result.now c.after_gap.ensures.value c.in_err-tail.ensures) in
    record { value = f.value; law = f.law; rest = f.rest }

pub overflow_sub-result : goal.overflow_sub-result
overflow_sub-result c =
    let q : c.split_at.result.1.now ≡ past c.after_gap-text.result.now = c.split_at.ensures.back ∙ behind_run c.after_gap-text.result.now c.run.result c.run.ensures.front c.run.ensures.within in
    rest_within c.args.line.now c.after_gap.result.now c.in_ok-tail.tail.now c.after_gap-text.result.now c.split_at.result.1.now
    c.after_gap.ensures.value c.in_ok-tail.ensures c.after_gap-text.ensures.value q

pub returns-in_err-directive : goal.returns-in_err-directive
returns-in_err-directive c =
    let l = c.args.line.now in
    let q : c.split_at.result.1.now ≡ past c.after_gap-text.result.now = c.split_at.ensures.back ∙ behind_run c.after_gap-text.result.now c.run.result c.run.ensures.front c.run.ensures.within in
    let none = found_by l c.after_gap.result.now c.in_ok-tail.tail.now c.after_gap-text.result.now c.split_at.result.1.now
    c.after_gap.ensures.value c.in_ok-tail.ensures c.after_gap-text.ensures.value q None c.split_at.result.0.now
    (c.split_at.ensures.front ∙ c.run.ensures.front) c.in_err-directive.ensures in
    let f = finds l _ (c.from_residual-in_err-directive.ensures ∙ none) in
    record { value = f.value; law = f.law; rest = f.rest }

pub returns : goal.returns
returns c =
    let l = c.args.line.now in
    let q : c.split_at.result.1.now ≡ past c.after_gap-text.result.now = c.split_at.ensures.back ∙ behind_run c.after_gap-text.result.now c.run.result c.run.ensures.front c.run.ensures.within in
    let some = found_by l c.after_gap.result.now c.in_ok-tail.tail.now c.after_gap-text.result.now c.split_at.result.1.now
    c.after_gap.ensures.value c.in_ok-tail.ensures c.after_gap-text.ensures.value q (Some c.in_ok-directive.directive) c.split_at.result.0.now
    (c.split_at.ensures.front ∙ c.run.ensures.front) c.in_ok-directive.ensures in
    let f = finds l _ some in
    record { value = f.value; law = f.law; rest = f.rest }

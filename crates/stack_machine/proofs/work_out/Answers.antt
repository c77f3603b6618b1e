use Rattle.std.proofs.Common.{Err, ap, ◌∙◌, arith}
use Rattle.std.proofs.lemmas.Result.{err_from_is_err_and}
use Rattle.expressions.specs.Conditions.{items}
use Rattle.expressions.specs.declared.condition.Step.TheVariants.{Never}
use Rattle.stack_machine.proofs.Machine.{goes_more, goes_refused, goes_end}
use Rattle.stack_machine.proofs.work_out.Goals as goal

pub returns-in_err-value-clause-works : goal.returns-in_err-value-clause-works
returns-in_err-value-clause-works g c e q =
    let p = err_from_is_err_and c.from_residual.result c.from_residual.ensures.1 in (
      c.default-idle.result,
      goes_refused (g.I.Interpretation.gives c.args.by.now) _ Never c.loop-step.invariant.2 e c.in_err-value.field-0.0 c.from_residual.result c.apply.new.state c.operands-a.result
          c.loop-step-test.true c.in_err-value.ensures.gives c.operands-a.ensures.value (p.1 ∙ ap Err p.2) (ap items c.steps-step-items.ensures.value ∙ q),
    )

pub loop-step-preserved : goal.loop-step-preserved
loop-step-preserved g c =
    let taken = c.operands-a.ensures in
    let step = c.in_ok-value.ensures in (
      g.met.I.Interpretation.goes_on _ _ _ c.loop-step.invariant.0 step.goes,
      omega arith,
      goes_more _ _ Never c.loop-step.invariant.2 c.in_ok-value.value _ c.operands-a.result c.operands-a.new.stack.items c.push.new.self.items
          c.loop-step-test.true step.gives taken.value taken.popped c.push.ensures.items,
    )

pub returns-clause-works : goal.returns-clause-works
returns-clause-works g c e q =
    (_, goes_end (g.I.Interpretation.gives c.args.by.now) _ Never c.loop-step.invariant.2 e c.pop.result c.loop-step-test.false c.pop.ensures.value (ap items c.steps-step-items.ensures.value ∙ q))

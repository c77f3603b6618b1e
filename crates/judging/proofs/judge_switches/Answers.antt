use Rattle.std.proofs.Common.{IfErr, Err, vec_items, Result, Vec, sym, ap, ◌∙◌, subst}
use Rattle.std.specs.declared.alloc.Global.{Global}
use Rattle.std.proofs.lemmas.Result.{err_from_is_err_and}
use Rattle.standing.specs.declared.verdict.Standing.{Standing}
use Rattle.judging.specs.declared.fault.JudgingFault.{JudgingFault}
use Rattle.judging.specs.declared.fault.JudgingFault.TheVariants.{Store}
use Rattle.judging.specs.Refused.{SwitchRefused}
use Rattle.standing.specs.Standing.{Stands}
use Rattle.judging.proofs.Standings.{stand_more}
use Rattle.judging.proofs.judge_switches.Goals as goal

pub returns-in_err-standing-clause-refused : goal.returns-in_err-standing-clause-refused
returns-in_err-standing-clause-refused g c =
    let s = g.S.Store in
    let l = c.loop-i in
    let e = c.in_err-standing.ensures in
    let p = err_from_is_err_and c.from_residual.result c.from_residual.ensures.1 in
    subst (λ (r : Result (Vec Standing Global) JudgingFault). IfErr r (SwitchRefused s.model s.rollback s.need c.args.store.now)) (sym (p.1 ∙ ap Err p.2))
    (subst (λ (z : _). SwitchRefused s.model s.rollback s.need z (Store c.in_err-standing.field-0.0)) l.invariant.0 (l.i, e.asked.0, e.asked.1, e.asked.2, e.asked.3))

pub loop-i-preserved : goal.loop-i-preserved
loop-i-preserved g c =
    let s = g.S.Store in
    let l = c.loop-i in
    let e = c.in_ok-standing.ensures in (
      e.same ∙ l.invariant.0,
      stand_more (s.model c.args.store.now).allowed l.i (vec_items l.standings) (vec_items c.push.new.self) c.in_ok-standing.field-0 c.in_ok-push.ensures.items l.invariant.1
          (subst (λ (z : _). Stands (s.model z).allowed l.i c.in_ok-standing.field-0) l.invariant.0 e.stands),
    )

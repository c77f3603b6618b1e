use Rattle.std.proofs.Common.{ℕ, ◌<◌, [], Err, Result, sym, ap, ◌∙◌, subst, arith}
use Rattle.std.proofs.lemmas.Result.{err_from_is_err_and}
use Rattle.arrayvec.specs.ArrayVec.{ArrayVec}
use Rattle.stores.specs.Outcome.{switch}
use Rattle.stores.specs.Steps.{Runs, done}
use Rattle.stores.proofs.Models.{advanced_op, advanced_trans}
use Rattle.rulelines.specs.declared.fault.RuleFault.{RuleFault}
use Rattle.rules.specs.Ruled.{switching}
use Rattle.rules.specs.Turns.{seen}
use Rattle.rules.proofs.Switching.{goes_more, goes_refused}
use Rattle.rules.proofs.reading.switch_numbers.Goals as goal

pub returns-in_err-on_line-clause-runs : goal.returns-in_err-on_line-clause-runs
returns-in_err-on_line-clause-runs g c =
    let s = g.S.Store in
    let e = c.args.store.now in
    let l = c.loop-i in
    let n : ℕ = (s.model e).n in
    let lt : l.i < n = omega (arith, c.loop-i-test.true, c.switches-i-end.ensures) in
    let p = err_from_is_err_and c.from_residual.result c.from_residual.ensures.1 in
    subst (λ (r : Result (ArrayVec ℕ) RuleFault). Runs s.model s.rollback s.need (switching n 0 [] done) e c.switch.new.self (seen (λ v. v.items) r)) (sym (p.1 ∙ ap Err p.2))
    (goes_refused s.model s.rollback s.need n e l.i c.in_err-on_line.field-0.0 l.numbers.items l.store c.switch.new.self c.switch.result lt l.invariant.2 c.switch.ensures c.in_err-on_line.ensures)

pub loop-i-preserved : goal.loop-i-preserved
loop-i-preserved g c =
    let s = g.S.Store in
    let e = c.args.store.now in
    let l = c.loop-i in
    let n : ℕ = (s.model e).n in
    let lt : l.i < n = omega (arith, c.loop-i-test.true, c.switches-i-end.ensures) in (
      advanced_trans s.rollback_laws l.invariant.0 (advanced_op s.rollback_laws s.need (switch l.i) c.switch.result c.switch.ensures),
      omega arith,
      goes_more s.model s.rollback s.need n e l.i c.in_ok-on_line.field-0 l.numbers.items c.push.new.self.items l.store c.switch.new.self c.switch.result lt l.invariant.2 c.switch.ensures c.in_ok-on_line.ensures c.push.ensures.items,
    )

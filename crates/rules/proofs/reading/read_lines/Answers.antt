use Rattle.std.proofs.Common.{Some, None, length}
use Rattle.stores.proofs.Models.{advanced_trans}
use Rattle.rules.proofs.Loop.{goes_more, goes_last, turned_by}
use Rattle.rulelines.proofs.Empty.{not_empty}
use Rattle.rules.proofs.reading.read_lines.Goals as goal

pub returns-in_err-set-clause-advanced : goal.returns-in_err-set-clause-advanced
returns-in_err-set-clause-advanced g c = advanced_trans g.S.Store.rollback_laws c.loop-rest.invariant.0 c.in_err-set.ensures.advanced

pub returns-in-None-clause-advanced : goal.returns-in-None-clause-advanced
returns-in-None-clause-advanced g c = advanced_trans g.S.Store.rollback_laws c.loop-rest.invariant.0 c.in_ok-set.ensures.advanced

pub returns-in-None-clause-runs : goal.returns-in-None-clause-runs
returns-in-None-clause-runs g c =
    let s = g.S.Store in
    let a = c.args in
    let l = c.loop-rest in
    let f = c.first_line in
    let n = c.saturating_add-number in
    let some = not_empty (length l.rest.now) c.loop-rest-test.ensures in
    goes_last s.model s.rollback s.need a.reading a.lines a.text.now a.store.now l.allowed l.number n.result l.rest.now f.result.0.now f.result.1.now l.store c.read_line.new.store
    some (f.ensures.first some) f.ensures.content f.ensures.behind n.ensures l.invariant.1
    (turned_by s.model s.rollback s.need a.reading l.allowed n.result f.result.0.now l.store c.read_line.new.store _ None c.in-None.is c.in_ok-set.ensures.turned)

pub loop-rest-preserved : goal.loop-rest-preserved
loop-rest-preserved g c =
    let s = g.S.Store in
    let a = c.args in
    let l = c.loop-rest in
    let f = c.first_line in
    let n = c.saturating_add-number in
    let some = not_empty (length l.rest.now) c.loop-rest-test.ensures in (
      advanced_trans s.rollback_laws l.invariant.0 c.in_ok-set.ensures.advanced,
      goes_more s.model s.rollback s.need a.reading a.lines a.text.now a.store.now l.allowed l.number n.result c.in-Some.set l.rest.now f.result.0.now f.result.1.now l.store c.read_line.new.store
          some (f.ensures.first some) f.ensures.content f.ensures.behind n.ensures l.invariant.1
          (turned_by s.model s.rollback s.need a.reading l.allowed n.result f.result.0.now l.store c.read_line.new.store _ (Some c.in-Some.set) c.in-Some.is c.in_ok-set.ensures.turned),
    )

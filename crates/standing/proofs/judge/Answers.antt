use Rattle.stores.specs.Model.{set_at}
use Rattle.stores.specs.Outcome.{switch, less}
use Rattle.stores.proofs.Models.{advanced_op, advanced_trans}
use Rattle.stores.proofs.Runs.{found_none, found_some}
use Rattle.standing.proofs.Asked.{always_on, either_way}
use Rattle.standing.proofs.judge.Goals as goal

pub returns-then-is_none-2-clause-advanced : goal.returns-then-is_none-2-clause-advanced
returns-then-is_none-2-clause-advanced g c =
    let s = g.S.Store in
    advanced_trans s.rollback_laws (advanced_op s.rollback_laws s.need (switch c.args.i) c.switch.result c.switch.ensures)
    (advanced_op s.rollback_laws s.need (less c.args.top c.in_ok-with.with) c.less.result c.less.ensures)

pub returns-then-is_none-2-clause-runs : goal.returns-then-is_none-2-clause-runs
returns-then-is_none-2-clause-runs g c =
    let s = g.S.Store in
    let x = c.in_ok-with.with in
    let y = c.in_ok-without.without in
    always_on s.model s.rollback s.need c.args.top c.args.i c.args.store.now c.switch.new.self c.less.new.self x y c.in_ok-with.ensures
    (found_some (set_at (s.model c.switch.new.self) x) c.in_ok-find.field-0 c.if-is_none.ensures c.in_ok-find.ensures.1) c.in_ok-without.ensures
    (found_none (set_at (s.model c.less.new.self) y) c.in_ok-find-2.field-0 c.if-is_none-2.ensures c.in_ok-find-2.ensures.1)

pub returns-clause-advanced : goal.returns-clause-advanced
returns-clause-advanced g c =
    let s = g.S.Store in
    advanced_trans s.rollback_laws (advanced_op s.rollback_laws s.need (switch c.args.i) c.switch.result c.switch.ensures)
    (advanced_op s.rollback_laws s.need (less c.args.top c.in_ok-with.with) c.less.result c.less.ensures)

pub returns-clause-runs : goal.returns-clause-runs
returns-clause-runs g c =
    let s = g.S.Store in
    let x = c.in_ok-with.with in
    let y = c.in_ok-without.without in
    either_way s.model s.rollback s.need c.args.top c.args.i c.args.store.now c.switch.new.self c.less.new.self x y c.in_ok-with.ensures
    (found_some (set_at (s.model c.switch.new.self) x) c.in_ok-find.field-0 c.if-is_none.ensures c.in_ok-find.ensures.1) c.in_ok-without.ensures
    (found_some (set_at (s.model c.less.new.self) y) c.in_ok-find-2.field-0 c.if-is_none-2.ensures c.in_ok-find-2.ensures.1)

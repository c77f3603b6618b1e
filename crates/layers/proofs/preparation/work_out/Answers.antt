use Rattle.std.proofs.Common.{refl, arith}
use Rattle.layers.proofs.Switching.{first_refused, none_allowed, begun_some, turn_first, turn_more, turn_last, switch_refused, both_refused}
use Rattle.layers.proofs.preparation.work_out.Goals as goal

pub returns-in_err-top : goal.returns-in_err-top
returns-in_err-top g c =
    let s = g.S.Store in
    let h = c.in_err-top.ensures in
    first_refused s.rollback_laws s.need {s = c.args.store.now} {s' = c.both.new.self} {top = c.args.all} {a = c.args.a}
    c.from_residual.ensures.1 h

-- R is held, so its lowest configuration is not refused
pub returns-in_err-find : goal.returns-in_err-find
returns-in_err-find g c = absurd (omega (arith, c.in_err-find.ensures.0, c.in_ok-top.ensures.within))

pub returns-then-is_none : goal.returns-then-is_none
returns-then-is_none g c =
    let s = g.S.Store in
    let first = c.in_ok-top.ensures in
    none_allowed s.rollback_laws s.need {s = c.args.store.now} {s₁ = c.both.new.self} {top = c.args.all} {a = c.args.a} {R = c.in_ok-top.top}
    c.in_ok-find.field-0 first c.if-is_none.ensures c.in_ok-find.ensures.1

pub loop-i-init : goal.loop-i-init
loop-i-init g c =
    turn_first g.S.Store.rollback_laws g.S.Store.need {n = c.switches-i-end.result} {R = c.in_ok-top.top} {s₁ = c.both.new.self} refl

pub returns-in_err-x : goal.returns-in_err-x
returns-in_err-x g c =
    let s = g.S.Store in
    let first = c.in_ok-top.ensures in
    let h = c.in_err-x.ensures in
    switch_refused s.rollback_laws s.need {s = c.args.store.now} {s₁ = c.both.new.self} {t = c.loop-i.store} {t₁ = c.switch.new.self}
    {n = c.switches-i-end.result} {top = c.args.all} {a = c.args.a} {R = c.in_ok-top.top} {i = c.loop-i.i} {sw = c.loop-i.switches}
    c.from_residual-in_err-x.ensures.1
    (begun_some s.rollback_laws s.need {s = c.args.store.now} {s₁ = c.both.new.self} {top = c.args.all} {a = c.args.a} {R = c.in_ok-top.top}
    c.in_ok-find.field-0 first c.if-is_none.ensures c.in_ok-find.ensures.1)
    c.switches-i-end.ensures c.loop-i.invariant c.loop-i-test.true h

pub returns-in_err-switches : goal.returns-in_err-switches
returns-in_err-switches g c =
    let s = g.S.Store in
    let first = c.in_ok-top.ensures in
    let one = c.in_ok-x.ensures in
    let h = c.in_err-switches.ensures in
    both_refused s.rollback_laws s.need {s = c.args.store.now} {s₁ = c.both.new.self} {t = c.loop-i.store} {t₁ = c.switch.new.self}
    {t₂ = c.both-in-loop-i.new.self} {n = c.switches-i-end.result} {top = c.args.all} {a = c.args.a} {R = c.in_ok-top.top} {i = c.loop-i.i}
    {x = c.in_ok-x.x} {sw = c.loop-i.switches}
    c.from_residual-in_err-switches.ensures.1
    (begun_some s.rollback_laws s.need {s = c.args.store.now} {s₁ = c.both.new.self} {top = c.args.all} {a = c.args.a} {R = c.in_ok-top.top}
    c.in_ok-find.field-0 first c.if-is_none.ensures c.in_ok-find.ensures.1)
    c.switches-i-end.ensures c.loop-i.invariant c.loop-i-test.true one h

-- there are at most 24 switches
pub bounds-switches-i : goal.bounds-switches-i
bounds-switches-i g c =
    omega (arith, c.loop-i-test.true, c.switches-i-end.ensures, (g.S.Store.consistent c.both.new.self).few)

pub loop-i-preserved : goal.loop-i-preserved
loop-i-preserved g c =
    let s = g.S.Store in
    let one = c.in_ok-x.ensures in
    let two = c.in_ok-switches.ensures in
    turn_more s.rollback_laws s.need {n = c.switches-i-end.result} {R = c.in_ok-top.top} {i = c.loop-i.i} {x = c.in_ok-x.x}
    {y = c.in_ok-switches.field-0} {s₁ = c.both.new.self} {t = c.loop-i.store} {t₁ = c.switch.new.self} {t₂ = c.both-in-loop-i.new.self}
    {sw = c.loop-i.switches}
    c.loop-i.invariant c.loop-i-test.true (bounds-switches-i g c) one two

pub returns : goal.returns
returns g c =
    let s = g.S.Store in
    let first = c.in_ok-top.ensures in
    turn_last s.rollback_laws s.need {s = c.args.store.now} {s₁ = c.both.new.self} {t = c.loop-i.store} {n = c.switches-i-end.result}
    {top = c.args.all} {a = c.args.a} {R = c.in_ok-top.top} {i = c.loop-i.i} {fl = c.len-floor.result} {sw = c.loop-i.switches}
    (begun_some s.rollback_laws s.need {s = c.args.store.now} {s₁ = c.both.new.self} {top = c.args.all} {a = c.args.a} {R = c.in_ok-top.top}
    c.in_ok-find.field-0 first c.if-is_none.ensures c.in_ok-find.ensures.1)
    c.switches-i-end.ensures c.loop-i.invariant c.loop-i-test.false c.loop-i.auto.i-end c.len-floor.ensures

use Rattle.std.proofs.Common.{true, false, Ok, Err, ap, ◌∙◌}
use Rattle.std.proofs.lemmas.Result.{err_from_is_err_and}
use Rattle.stores.specs.Outcome.{both}
use Rattle.stores.proofs.Models.{advanced_op, advanced_trans}
use Rattle.expressions.specs.Conditions.{condition_at}
use Rattle.rules.specs.Read.{names}
use Rattle.rulelines.proofs.Parsed.{condition_read}
use Rattle.rules.proofs.Known.{known_read}
use Rattle.rules.proofs.Applied.{unread, undeclared, unworked, met}
use Rattle.rules.proofs.reading.apply_rule.Goals as goal

pub returns-in_err-rule-clause-goes : goal.returns-in_err-rule-clause-goes
returns-in_err-rule-clause-goes g c =
    let s = g.S.Store in
    let a = c.args in
    let o = a.operand in
    let q = c.in_err-rule.ensures in
    let p = err_from_is_err_and c.from_residual.result c.from_residual.ensures.1 in
    unread s.model s.rollback s.need a.reading a.acc a.operand c.in_err-rule.field-0.0 a.store.now c.from_residual.result
    (condition_read o.line.now o.number (condition_at o.comments o.line.now o.from) (Err c.in_err-rule.field-0.0) q.long q.reads) (p.1 ∙ ap Err p.2)

pub returns-then-not-all_declared-clause-goes : goal.returns-then-not-all_declared-clause-goes
returns-then-not-all_declared-clause-goes g c =
    let s = g.S.Store in
    let a = c.args in
    let o = a.operand in
    let q = c.in_ok-rule.ensures in
    let k = c.in_ok-rule.rule in
    let e = condition_read o.line.now o.number (condition_at o.comments o.line.now o.from) (Ok k) q.long q.reads in
    undeclared s.model s.rollback s.need a.reading a.acc a.operand e.0 a.store.now e.1
    (known_read (names a.reading) k c.steps.result.now e.0 false e.2 c.steps.ensures.value c.if-not-all_declared.ensures)

pub returns-in_err-set-clause-goes : goal.returns-in_err-set-clause-goes
returns-in_err-set-clause-goes g c =
    let s = g.S.Store in
    let a = c.args in
    let o = a.operand in
    let q = c.in_ok-rule.ensures in
    let k = c.in_ok-rule.rule in
    let e = condition_read o.line.now o.number (condition_at o.comments o.line.now o.from) (Ok k) q.long q.reads in
    let p = err_from_is_err_and c.from_residual-in_err-set.result c.from_residual-in_err-set.ensures.1 in
    unworked s.model s.rollback s.need a.reading a.acc a.operand e.0 a.store.now c.work_out.new.store c.work_out.result c.in_err-set.field-0.0 c.from_residual-in_err-set.result e.1
    (known_read (names a.reading) k c.steps.result.now e.0 true e.2 c.steps.ensures.value c.if-not-all_declared.ensures)
    (c.work_out.ensures.runs e.0 e.2) c.in_err-set.ensures (p.1 ∙ ap Err p.2)

pub returns-clause-advanced : goal.returns-clause-advanced
returns-clause-advanced g c =
    let s = g.S.Store in
    advanced_trans s.rollback_laws c.work_out.ensures.advanced (advanced_op s.rollback_laws s.need (both c.args.acc c.in_ok-set.set) c.both.result c.both.ensures)

pub returns-clause-goes : goal.returns-clause-goes
returns-clause-goes g c =
    let s = g.S.Store in
    let a = c.args in
    let o = a.operand in
    let q = c.in_ok-rule.ensures in
    let k = c.in_ok-rule.rule in
    let e = condition_read o.line.now o.number (condition_at o.comments o.line.now o.from) (Ok k) q.long q.reads in
    met s.model s.rollback s.need a.reading a.acc a.operand e.0 a.store.now c.work_out.new.store c.both.new.self c.work_out.result c.in_ok-set.set c.both.result c.on_line-2.result e.1
    (known_read (names a.reading) k c.steps.result.now e.0 true e.2 c.steps.ensures.value c.if-not-all_declared.ensures)
    (c.work_out.ensures.runs e.0 e.2) c.in_ok-set.ensures c.both.ensures c.on_line-2.ensures

use Rattle.std.proofs.Common.{Err, ap, ◌∙◌}
use Rattle.std.proofs.lemmas.Result.{err_from_is_err_and}
use Rattle.stores.proofs.Models.{advanced_none}
use Rattle.rulelines.specs.Kinds.{kind_of}
use Rattle.rules.proofs.Lined.{rule_refused}
use Rattle.rules.proofs.reading.read_line.Goals as goal

pub returns-in_err-set-in-Rule-clause-turned : goal.returns-in_err-set-in-Rule-clause-turned
returns-in_err-set-in-Rule-clause-turned g c =
    let s = g.S.Store in
    let a = c.args in
    let p = err_from_is_err_and c.from_residual.result c.from_residual.ensures.1 in
    rule_refused s.model s.rollback s.need a.reading a.acc a.number a.line.now (kind_of a.line.now) c.in-Rule.from c.in_err-set-in-Rule.field-0.0 a.store.now c.apply_rule.new.store c.from_residual.result c.in-Rule.ensures (p.1 ∙ ap Err p.2) c.in_err-set-in-Rule.ensures.goes

pub returns-in_ok-only_name-in-Switch-clause-advanced : goal.returns-in_ok-only_name-in-Switch-clause-advanced
returns-in_ok-only_name-in-Switch-clause-advanced g c = advanced_none g.S.Store.rollback_laws

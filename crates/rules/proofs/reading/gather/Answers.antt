use Rattle.std.proofs.Common.{ℕ, List, Err, Result, sym, ap, ◌∙◌, subst}
use Rattle.std.proofs.lemmas.Result.{err_from_is_err_and}
use Rattle.stores.specs.Steps.{Runs}
use Rattle.stores.proofs.Models.{advanced_trans}
use Rattle.lines.specs.Lines.{lines_of}
use Rattle.names.specs.Names.{texts}
use Rattle.rulelines.specs.declared.fault.RuleFault.{RuleFault}
use Rattle.rules.specs.declared.reading.Rules.{Rules}
use Rattle.rulelines.specs.Faults.{described}
use Rattle.rules.specs.Read.{answer_of}
use Rattle.rules.specs.Ruled.{entry_of, ruling, ruled}
use Rattle.rules.specs.Turns.{seen}
use Rattle.rules.proofs.Switching.{switched, switched_refused}
use Rattle.rules.proofs.reading.gather.Goals as goal

pub returns-in_err-numbers-clause-runs : goal.returns-in_err-numbers-clause-runs
returns-in_err-numbers-clause-runs g c =
    let s = g.S.Store in
    let k = c.args.known in
    let entry = c.args.store.now in
    let n : ℕ = (s.model entry).n in
    let rules = c.args.rules in
    let ns = texts rules.names.now in
    let p = err_from_is_err_and c.from_residual.result c.from_residual.ensures.1 in
    subst (λ (r : Result Rules RuleFault). Runs s.model s.rollback s.need (ruled ns n k.none k.top rules.lines rules.text.now) entry c.switch_numbers.new.store (seen answer_of r)) (sym (p.1 ∙ ap Err p.2))
    (switched_refused s.model s.rollback s.need n (λ (ms : List ℕ). ruling ns (entry_of ns ms) k.none k.top k.top rules.lines (lines_of rules.text.now)) entry c.switch_numbers.new.store
    (described c.in_err-numbers.field-0.0) c.in_err-numbers.ensures.runs)

pub returns-clause-advanced : goal.returns-clause-advanced
returns-clause-advanced g c = advanced_trans g.S.Store.rollback_laws c.in_ok-numbers.ensures.advanced c.read_lines.ensures.advanced

pub returns-clause-runs : goal.returns-clause-runs
returns-clause-runs g c =
    let s = g.S.Store in
    let k = c.args.known in
    let entry = c.args.store.now in
    let rules = c.args.rules in
    let ns = texts rules.names.now in
    switched s.model s.rollback s.need (s.model entry).n (λ (ms : List ℕ). ruling ns (entry_of ns ms) k.none k.top k.top rules.lines (lines_of rules.text.now)) c.in_ok-numbers.numbers.items c.as_slice.result.now
    entry c.switch_numbers.new.store c.read_lines.new.store (seen answer_of c.read_lines.result) c.as_slice.ensures.value c.in_ok-numbers.ensures.runs c.read_lines.ensures.runs

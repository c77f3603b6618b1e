use Rattle.std.proofs.Common.{ℕ, IfErr, Err, vec_items, Result, Vec, sym, ap, ◌∙◌, subst}
use Rattle.stores.specs.Model.{set_at}
use Rattle.layers.specs.Layered.{layer_model}
use Rattle.lines.specs.Lines.{lines_of}
use Rattle.names.specs.Names.{texts}
use Rattle.rules.specs.Allowed.{allowed_by, satisfies, rules_in, defines}
use Rattle.std.specs.declared.alloc.Global.{Global}
use Rattle.std.proofs.lemmas.Result.{err_from_is_err_and}
use Rattle.standing.specs.declared.verdict.Standing.{Standing}
use Rattle.judging.specs.declared.fault.JudgingFault.{JudgingFault}
use Rattle.judging.specs.Refused.{OverRefused}
use Rattle.judging.proofs.Standings.{layer_allows, judged}
use Rattle.judging.proofs.Refusals.{over_switch, layer_made, layer_refused}
use Rattle.judging.proofs.judge_over.Goals as goal

abbrev Outcome : Type 0
Outcome = Result (Vec Standing Global × ℕ) JudgingFault

pub returns-in_err-read-clause-refused : goal.returns-in_err-read-clause-refused
returns-in_err-read-clause-refused g c =
    let a = c.args in
    let p = err_from_is_err_and c.from_residual.result c.from_residual.ensures.1 in
    subst (λ (r : Outcome). IfErr r (OverRefused g.S.Store (texts a.rules.names.now) a.rules.lines a.rules.text.now a.store)) (sym (p.1 ∙ ap Err p.2))
    (c.read_rules.new.store, c.in_err-read.ensures.outcome)

pub returns-in_err-layer-clause-refused : goal.returns-in_err-layer-clause-refused
returns-in_err-layer-clause-refused g c =
    let a = c.args in
    let p = err_from_is_err_and c.from_residual-in_err-layer.result c.from_residual-in_err-layer.ensures.1 in
    let l = layer_refused c.read_rules.new.store c.in_ok-read.read.allowed c.in_err-layer.field-0.0 c.in_err-layer.ensures in
    subst (λ (r : Outcome). IfErr r (OverRefused g.S.Store (texts a.rules.names.now) a.rules.lines a.rules.text.now a.store)) (sym (p.1 ∙ ap Err p.2))
    (c.read_rules.new.store, c.in_ok-read.read, l.0, c.in_ok-read.ensures.outcome, l.1, l.2)

pub returns-in_err-standings-clause-refused : goal.returns-in_err-standings-clause-refused
returns-in_err-standings-clause-refused g c =
    let a = c.args in
    let p = err_from_is_err_and c.from_residual-in_err-standings.result c.from_residual-in_err-standings.ensures.1 in
    let l = layer_made c.read_rules.new.store c.in_ok-read.read.allowed c.in_ok-layer.layer c.in_ok-layer.ensures in
    subst (λ (r : Outcome). IfErr r (OverRefused g.S.Store (texts a.rules.names.now) a.rules.lines a.rules.text.now a.store)) (sym (p.1 ∙ ap Err p.2))
    (over_switch g.S.Store (texts a.rules.names.now) a.rules.lines a.rules.text.now a.store c.read_rules.new.store c.in_ok-read.read c.in_ok-layer.layer c.in_err-standings.field-0.0
    c.in_ok-read.ensures.outcome l.0 c.in_err-standings.ensures.refused)

pub returns-clause-judged : goal.returns-clause-judged
returns-clause-judged g c =
    let s = g.S.Store in
    let a = c.args in
    let ns = texts a.rules.names.now in
    let read = c.in_ok-read.ensures in
    let moved = read.advanced.grown.appended.same in
    let m₁ = s.model c.read_rules.new.store in
    let layer = c.in_ok-layer.layer in
    let seen = c.judge_switches.new.store in
    let mk = (layer_made c.read_rules.new.store c.in_ok-read.read.allowed layer c.in_ok-layer.ensures).1 in
    judged (allowed_by (s.model a.store).allowed ns (lines_of a.rules.text.now)) (layer_model layer).allowed (layer_model seen).allowed (set_at (layer_model seen) c.top.result)
    (s.model a.store).n (layer_model layer).n c.in_ok-lowest.lowest (vec_items c.in_ok-standings.standings) c.in_ok-find.field-0
    (layer_allows (s.model a.store).allowed m₁.allowed (set_at m₁ c.in_ok-read.read.allowed) (layer_model layer).allowed (λ k. satisfies (rules_in (lines_of a.rules.text.now)) (defines ns k)) moved.allowed read.allowed.is mk.allowed)
    (mk.n ∙ moved.n)
    (ap (λ (l : _). (layer_model l).allowed) c.in_ok-standings.ensures.same)
    c.top.ensures.1 c.in_ok-standings.ensures.stand c.in_ok-find.ensures.1 c.in_ok-lowest.ensures.ok_part

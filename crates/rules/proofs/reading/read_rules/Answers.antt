use Rattle.std.proofs.Common.{ℕ, true, ◌&&◌, eqb, length, Ok, sym, subst}
use Rattle.stores.specs.Sets.{empty}
use Rattle.stores.proofs.Models.{extends_same, release_restores}
use Rattle.lines.specs.Lines.{lines_of}
use Rattle.names.specs.Names.{texts, distinct}
use Rattle.evaluation.specs.Meaning.{Denotes}
use Rattle.rules.specs.Allowed.{allowed_by}
use Rattle.rules.specs.Read.{answer_of}
use Rattle.rules.specs.Ruled.{ruled}
use Rattle.stores.specs.Steps.{Attempt}
use Rattle.rules.proofs.Law.{ruled_law}
use Rattle.rules.proofs.Rules.{fits_of, one_each, when_true, constant}
use Rattle.rules.proofs.reading.read_rules.Goals as goal

pub returns-in-Ok-clause-allowed : goal.returns-in-Ok-clause-allowed
returns-in-Ok-clause-allowed g c =
    let s = g.S.Store in
    let a = c.args.rules in
    let entry = c.args.store.now in
    let ns = texts a.names.now in
    let n : ℕ = (s.model entry).n in
    let ok = s.consistent entry in
    let fit = fits_of ns true c.switches.result n c.switches.ensures c.if-not-names_fit.ensures in
    subst (λ (z : _). Denotes (s.model z) c.in-Ok.read.allowed (allowed_by (s.model entry).allowed ns (lines_of a.text.now))) (sym c.keep.ensures)
    (ruled_law s.model s.rollback s.need ns n c.none.result c.top.result a.lines a.text.now entry c.gather.new.store (answer_of c.in-Ok.read) (one_each a.names.now n fit)
    (constant (s.model entry) c.none.result empty ok c.none.ensures) (constant (s.model entry) c.top.result (s.model entry).allowed ok c.top.ensures) c.in-Ok.ensures.runs)

pub returns-in-Ok-clause-outcome : goal.returns-in-Ok-clause-outcome
returns-in-Ok-clause-outcome g c =
    let s = g.S.Store in
    let a = c.args.rules in
    let entry = c.args.store.now in
    let ns = texts a.names.now in
    let n : ℕ = (s.model entry).n in
    let ok = s.consistent entry in
    let fit = fits_of ns true c.switches.result n c.switches.ensures c.if-not-names_fit.ensures in
    when_true (eqb (length ns) n && distinct ns) _ _ fit (
      c.none.result,
      c.top.result,
      constant (s.model entry) c.none.result empty ok c.none.ensures,
      constant (s.model entry) c.top.result (s.model entry).allowed ok c.top.ensures,
      subst (λ (z : _). Attempt s.model s.rollback s.need (ruled ns n c.none.result c.top.result a.lines a.text.now) entry z (Ok (answer_of c.in-Ok.read))) (sym c.keep.ensures) c.in-Ok.ensures.runs,
    )

pub returns-in-Err-clause-advanced : goal.returns-in-Err-clause-advanced
returns-in-Err-clause-advanced g c =
    let s = g.S.Store in
    record { more = 0; grown = extends_same s.rollback_laws (release_restores s.rollback_laws c.mark-mark.result.at (s.consistent c.args.store.now) c.in-Err.ensures.advanced c.mark-mark.ensures c.release.ensures) }

pub returns-in-Err-clause-outcome : goal.returns-in-Err-clause-outcome
returns-in-Err-clause-outcome g c =
    let s = g.S.Store in
    let entry = c.args.store.now in
    let ns = texts c.args.rules.names.now in
    let n : ℕ = (s.model entry).n in
    let ok = s.consistent entry in
    let fit = fits_of ns true c.switches.result n c.switches.ensures c.if-not-names_fit.ensures in
    when_true (eqb (length ns) n && distinct ns) _ _ fit (
      c.none.result,
      c.top.result,
      constant (s.model entry) c.none.result empty ok c.none.ensures,
      constant (s.model entry) c.top.result (s.model entry).allowed ok c.top.ensures,
      (release_restores s.rollback_laws c.mark-mark.result.at ok c.in-Err.ensures.advanced c.mark-mark.ensures c.release.ensures, (c.gather.new.store, c.in-Err.ensures.runs)),
    )

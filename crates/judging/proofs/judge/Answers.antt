use Rattle.std.proofs.Common.{◌≡◌, ℕ, ◌-◌, ◌^◌, min, List, length, IfErr, Some, Err, vec_items, Result, sym, refl, ap, ◌∙◌, subst, ap₂, inl, inr, arith}
use Rattle.stores.specs.Sets.{Set, everything}
use Rattle.stores.specs.Model.{Model}
use Rattle.stores.specs.Making.{New}
use Rattle.lines.specs.Lines.{lines_of}
use Rattle.names.specs.Names.{texts}
use Rattle.rules.specs.Allowed.{allowed_by}
use Rattle.rulelines.specs.Declarations.{declared_of}
use Rattle.rules.proofs.Rules.{length_texts}
use Rattle.std.proofs.lemmas.Result.{err_from_is_err_and}
use Rattle.judging.specs.declared.Judgement.{Judgement}
use Rattle.judging.specs.declared.fault.JudgingFault.{JudgingFault}
use Rattle.judging.specs.Refused.{OverRefused, TextRefused}
use Rattle.judging.proofs.Standings.{counted, all_counted, judged_by}
use Rattle.judging.proofs.judge.Goals as goal

pub returns-in_err-store-clause-refused : goal.returns-in_err-store-clause-refused
returns-in_err-store-clause-refused g c =
    let w = g.S.InWords in
    let d = c.in_ok-names.field-0 in
    let items = vec_items d.names in
    let ws = c.args.words.now in
    let p = err_from_is_err_and c.from_residual-in_err-store.result c.from_residual-in_err-store.ensures.1 in
    let many : c.unwrap_or-count.result ≡ min (length (texts items)) (2 ^ 32 - 1) =
    omega (arith, counted c.try_from.result c.len.result c.unwrap_or-count.result c.try_from.ensures c.unwrap_or-count.ensures, c.len.ensures, d.names.ok.0, length_texts items) in
    let f = c.in_err-store.field-0.0 in
    subst (λ (x : Result Judgement JudgingFault). IfErr x (TextRefused g.S.Store w.lies_in w.due w.room w.renewed c.args.text.now ws)) (sym (p.1 ∙ ap Err p.2))
    (inr (inl (declared_of d, f, refl, c.in_ok-names.ensures, subst (λ (n : ℕ). w.due ws n ≡ Some f) many c.in_err-store.ensures)))

pub returns-in_err-standings-clause-refused : goal.returns-in_err-standings-clause-refused
returns-in_err-standings-clause-refused g c =
    let s = g.S.Store in
    let w = g.S.InWords in
    let d = c.in_ok-names.field-0 in
    let items = vec_items d.names in
    let ws = c.args.words.now in
    let store = c.in_ok-store.store in
    let made = c.in_ok-store.ensures in
    let count = c.unwrap_or-count.result in
    let many : count ≡ length (texts items) =
    omega (arith, all_counted (s.model store) (w.room ws count) c.len.result count (s.consistent store) made.means (counted c.try_from.result c.len.result count c.try_from.ensures c.unwrap_or-count.ensures), c.len.ensures, d.names.ok.0, length_texts items) in
    let p = err_from_is_err_and c.from_residual-in_err-standings.result c.from_residual-in_err-standings.ensures.1 in
    let f = c.in_err-standings.field-0.0 in
    subst (λ (x : Result Judgement JudgingFault). IfErr x (TextRefused s w.lies_in w.due w.room w.renewed c.args.text.now ws)) (sym (p.1 ∙ ap Err p.2))
    (inr (inr (inl (
      declared_of d,
      store,
      c.in_ok-names.ensures,
      subst (λ (n : ℕ). New s.model w.lies_in w.due w.room w.renewed ws n store) many made,
      subst (λ (ns : List (List ℕ)). OverRefused s ns d.lines d.rest.now store f) (ap texts c.as_slice.ensures.value) c.in_err-standings.ensures.refused,
    ))))

pub returns-clause-judged : goal.returns-clause-judged
returns-clause-judged g c =
    let s = g.S.Store in
    let w = g.S.InWords in
    let d = c.in_ok-names.field-0 in
    let items = vec_items d.names in
    let store = c.in_ok-store.store in
    let made = c.in_ok-store.ensures in
    let count = c.unwrap_or-count.result in
    let many : count ≡ length (texts items) =
    omega (arith, all_counted (s.model store) (w.room c.args.words.now count) c.len.result count (s.consistent store) made.means (counted c.try_from.result c.len.result count c.try_from.ensures c.unwrap_or-count.ensures), c.len.ensures, d.names.ok.0, length_texts items) in (
      declared_of d,
      c.in_ok-names.ensures,
      refl,
      judged_by _ _ _ _ c.in_ok-standings.lowest (vec_items c.in_ok-standings.standings)
          (ap₂ (λ (A : Set) (ns : List (List ℕ)). allowed_by A ns (lines_of d.rest.now)) (ap (λ (m : Model). m.allowed) made.means ∙ ap everything many) (ap texts c.as_slice.ensures.value))
          (ap (λ (m : Model). m.n) made.means ∙ many)
          c.in_ok-standings.ensures.judged,
    )

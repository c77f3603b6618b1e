use Rattle.std.proofs.Common.{◌≡◌, ◌<◌, ℕ, false, [], ◌∷◌, length, Ok, Err, refl, sym, ap, ◌∙◌, rules, arith, eqb-true, List}
use Rattle.std.proofs.lemmas.Bool.{eqb-false}
use Rattle.names.specs.Names.{texts}
use Rattle.sources.specs.Faults.{conditional_fault}
use Rattle.sources.specs.declared.fault.ConditionalFault.{ConditionalFault}
use Rattle.conditionals.specs.Shape.{has}
use Rattle.conditionals.specs.Answers.{shape_of}
use Rattle.conditionals.proofs.Turns.{texts_length, texts_append, not_known, enter_full, enter_stopped, enter_done}
use Rattle.conditionals.proofs.Shape.enter.Goals as goal
use Rattle.conditionals.proofs.Shape.enter.Goals.{After-is_full}

unknown : (c : After-is_full) → has c.args.name.now (texts c.args.self.now.names.items) ≡ false
unknown c = not_known c.args.name.now c.deref.result.now c.args.self.now.names.items c.index_of.result c.deref.ensures.0 c.index_of.ensures c.if-is_some.ensures

pub returns-then-is_full : goal.returns-then-is_full
returns-then-is_full c =
    let s = c.args.self.now in
    let h : length s.names.items ≡ 64 = eqb-true _ _ (sym c.if-is_full.ensures.value) in
    (enter_full c.args.line.now.number c.args.line.now.last (shape_of s) c.args.name.now (unknown (goal.at.returns-then-is_full c).After-is_full) (omega (arith, texts_length s.names.items)) ∙ ap (λ (f : ConditionalFault). Err (conditional_fault f)) (sym c.on.ensures), refl)

room : (c : After-is_full) → c.is_full.result ≡ false → length (texts c.args.self.now.names.items) < 64
room c f =
    let s = c.args.self.now in
    omega (arith, texts_length s.names.items, eqb-false (length s.names.items) 64 (sym c.is_full.ensures.value ∙ f), c.is_full.ensures.fits)

pub returns-in_err-pass : goal.returns-in_err-pass
returns-in_err-pass c =
    let a = (goal.at.returns-in_err-pass c).After-is_full in
    let e = enter_stopped c.args.line.now.number c.args.line.now.last (shape_of c.args.self.now) c.args.name.now (unknown a) (room a c.if-is_full.false) (conditional_fault c.in_err-pass.field-0.0) c.in_err-pass.ensures.0 in
    search rules

pub returns : goal.returns
returns c =
    let a = (goal.at.returns c).After-is_full in
    let s = c.args.self.now in
    let e : texts c.push.new.self.items ≡ _ = ap texts c.push.ensures.items ∙ texts_append s.names.items (c.args.name ∷ []) in
    enter_done c.args.line.now.number c.args.line.now.last (shape_of s) c.args.name.now (unknown a) (room a c.if-is_full.false) (shape_of s) c.in_ok-pass.ensures
    ∙ ap (λ (l : List (List ℕ)). Ok (record { chains = (shape_of s).chains; blocks = s.blocks; names = l })) (sym e)

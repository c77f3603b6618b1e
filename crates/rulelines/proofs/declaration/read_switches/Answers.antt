use Rattle.std.proofs.Common.{◌≡◌, List, length, vec_items, sym, ap, ◌∙◌, subst}
use Rattle.lines.specs.Lines.{lines_of}
use Rattle.names.specs.Names.{texts}
use Rattle.text.specs.Tokens.{Bytes}
use Rattle.rulelines.specs.declared.declaration.Declarations.{Declarations}
use Rattle.rulelines.specs.Declaring.{declared, declared_in}
use Rattle.rulelines.proofs.Empty.{not_empty}
use Rattle.rulelines.proofs.Naming.{blank_turn, switch_turn, texts_more}
use Rattle.rulelines.proofs.declaration.read_switches.Goals as goal
use Rattle.rulelines.proofs.declaration.read_switches.Goals.{in-Blank, in-Switch+in_ok-name-in-Switch+in_ok-push-in-Switch}

pub loop-line-preserved : goal.loop-line-preserved
loop-line-preserved c =
    let d = c.loop-line.declared in
    let names = vec_items d.names in
    let f = c.first_line in
    let n = c.saturating_add-number in
    let first = f.ensures.first (not_empty (length d.rest.now) c.loop-line-test.ensures) in
    let P : List Bytes → Type 0 = λ ns. declared ns n.result f.result.1.now (lines_of f.result.1.now) ≡ declared_in c.args.text.now in
    let named : Declarations → List Bytes = λ e. texts (vec_items e.names) in
    elim c.match-kind_of.branch [
      | in-Blank w ↦ subst P (ap named (sym w.declared-is)) (sym (blank_turn (texts names) d.lines n.result d.rest.now f.result.0.now f.result.1.now first f.ensures.content f.ensures.behind n.ensures w.in-Blank.ensures) ∙ c.loop-line.invariant)
      | in-Switch+in_ok-name-in-Switch+in_ok-push-in-Switch w ↦
          let x = w.in_ok-name-in-Switch.name in
          subst P (ap named (sym w.declared-is))
          (sym (switch_turn (texts names) d.lines n.result d.rest.now f.result.0.now f.result.1.now first f.ensures.content f.ensures.behind n.ensures
          w.in-Switch.from x.now (texts w.as_slice.result.now) (texts (vec_items w.push.new.self)) w.in-Switch.ensures (ap texts w.as_slice.ensures.value) w.in_ok-name-in-Switch.ensures (texts_more names (vec_items w.push.new.self) x w.in_ok-push-in-Switch.ensures.items))
          ∙ c.loop-line.invariant)
    ]

use Rattle.std.proofs.Common.{false, Err, sym, ap, ◌∙◌, subst, arith}
use Rattle.std.proofs.lemmas.Result.{err_from_is_err_and}
use Rattle.names.specs.Names.{texts}
use Rattle.sources.specs.Lines.{lines}
use Rattle.sources.specs.Places.{placed}
use Rattle.conditionals.specs.Answers.{start_of}
use Rattle.preprocessing.specs.Outcome.{Preprocesses, wanted}
use Rattle.preprocessing.specs.Lines.{Going}
use Rattle.preprocessing.proofs.Turns.{length_texts}
use Rattle.preprocessing.proofs.Wanted.{too_many, alike, beyond, too_large, sized, starts, first, few_names, low_number, high_number}
use Rattle.preprocessing.proofs.preprocess.Goals as goal
use Rattle.preprocessing.proofs.preprocess.Goals.{After-new-3}

pub returns-then-names-gt-MAX_SWITCHES : goal.returns-then-names-gt-MAX_SWITCHES
returns-then-names-gt-MAX_SWITCHES c =
    let ns = texts c.args.names.now in
    too_many ns c.args.configuration c.args.source.now (omega (arith, c.if-names-gt-MAX_SWITCHES.true, length_texts c.args.names.now))

pub returns-then-not-all_distinct : goal.returns-then-not-all_distinct
returns-then-not-all_distinct c =
    let ns = texts c.args.names.now in
    alike ns c.args.configuration c.args.source.now (few_names c.args.names.now c.args.configuration c.if-names-gt-MAX_SWITCHES.false) c.if-not-all_distinct.ensures

pub returns-then-configuration-names : goal.returns-then-configuration-names
returns-then-configuration-names c =
    let ns = texts c.args.names.now in
    let few = few_names c.args.names.now c.args.configuration c.if-names-gt-MAX_SWITCHES.false in
    let high = high_number c.args.names.now c.args.configuration c.if-names-gt-MAX_SWITCHES.false c.if-configuration-names.true in
    beyond ns c.args.configuration c.args.source.now few c.if-not-all_distinct.ensures high

pub returns-in_err-check_size : goal.returns-in_err-check_size
returns-in_err-check_size c =
    let p = err_from_is_err_and c.from_residual.result c.from_residual.ensures.1 in
    let ns = texts c.args.names.now in
    let few = few_names c.args.names.now c.args.configuration c.if-names-gt-MAX_SWITCHES.false in
    let low = low_number c.args.names.now c.args.configuration c.if-names-gt-MAX_SWITCHES.false c.if-configuration-names.false in
    subst (Preprocesses ns c.args.configuration c.args.source.now) (sym (p.1 ∙ ap Err p.2))
    (too_large ns c.args.configuration c.args.source.now c.check_size.result c.in_err-check_size.field-0.0 few c.if-not-all_distinct.ensures low c.check_size.ensures c.in_err-check_size.was)

-- the run before the first line
begins : (c : After-new-3) → Going (wanted (texts c.args.names.now) c.args.configuration c.args.source.now)
    (record { output = c.new-2.result; shape = c.in_ok-shape.shape; state = c.new-3.result }) (placed false 1 (lines c.args.source.now))
begins c =
    let ns = texts c.args.names.now in
    let few = few_names c.args.names.now c.args.configuration c.if-names-gt-MAX_SWITCHES.false in
    let low = low_number c.args.names.now c.args.configuration c.if-names-gt-MAX_SWITCHES.false c.if-configuration-names.false in
    first ns c.args.configuration c.args.source.now _ c.new-2.ensures.items
    (sized ns c.args.configuration c.args.source.now c.check_size.result c.in_ok-check_size.field-0 few c.if-not-all_distinct.ensures low c.check_size.ensures c.in_ok-check_size.was)
    (starts ns c.args.configuration c.args.source.now c.in_ok-shape.shape few (sym (ap start_of c.in_ok-shape.ensures.ok_part) ∙ c.new.ensures)) (c.new-3.ensures ns (length_texts c.args.names.now))

pub returns-in_err-write_lines : goal.returns-in_err-write_lines
returns-in_err-write_lines c =
    let z = c.from_residual-in_err-write_lines in
    let p = err_from_is_err_and z.result z.ensures.1 in
    subst (Preprocesses (texts c.args.names.now) c.args.configuration c.args.source.now) (sym (p.1 ∙ ap Err p.2))
    (c.in_err-write_lines.ensures _ (begins (goal.at.returns-in_err-write_lines c).After-new-3))

pub returns : goal.returns
returns c = c.in_ok-write_lines.ensures _ (begins (goal.at.returns c).After-new-3)

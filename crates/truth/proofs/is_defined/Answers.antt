use Rattle.std.proofs.Common.{ℕ, false, length, Option, sym, ap, ◌∙◌, le-ltb}
use Rattle.std.proofs.lemmas.List.{get_or_past}
use Rattle.truth.specs.Worked.{flag_of}
use Rattle.truth.proofs.is_defined.Goals as goal

pub returns-else-i-flags : goal.returns-else-i-flags
returns-else-i-flags c =
    let fs = c.args.flags.now in
    le-ltb c.in-Some.i (length fs) c.if-i-flags.false
    ∙ sym (get_or_past fs c.in-Some.i false c.if-i-flags.false)
    ∙ ap (λ (o : Option ℕ). flag_of o fs) (sym c.in-Some.is ∙ c.index_of.ensures)

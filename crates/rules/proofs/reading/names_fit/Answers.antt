use Rattle.std.proofs.Common.{ℕ, Bool, ◌&&◌, eqb, length, sym, ap, ◌∙◌, eq-eqb, ne_eqb}
use Rattle.names.specs.Names.{texts, distinct}
use Rattle.rules.proofs.Rules.{length_texts}
use Rattle.rules.proofs.reading.names_fit.Goals as goal

pub returns-then-names-n : goal.returns-then-names-n
returns-then-names-n c =
    let ns = c.args.names.now in
    c.all_distinct.ensures ∙ ap (λ (b : Bool). b && distinct (texts ns)) (sym (ap (λ (k : ℕ). eqb k c.args.n) (length_texts ns) ∙ eq-eqb (length ns) c.args.n c.if-names-n.true))

pub returns-else-names-n : goal.returns-else-names-n
returns-else-names-n c =
    let ns = c.args.names.now in
    ne_eqb (length ns) c.args.n c.if-names-n.false
    ∙ ap (λ (b : Bool). b && distinct (texts ns)) (sym (ap (λ (k : ℕ). eqb k c.args.n) (length_texts ns) ∙ ne_eqb (length ns) c.args.n c.if-names-n.false))

use Rattle.std.proofs.Common.{Bool, sym, ap, ◌∙◌}
use Rattle.directives.specs.Gaps.{skip, between, front}
use Rattle.directives.proofs.Skips.{inside_is}
use Rattle.directives.proofs.gap.front_of.Goals as goal

pub returns-then-in_comment : goal.returns-then-in_comment
returns-then-in_comment c =
    let l = c.args.line.now in
    c.after_gap.ensures.value ∙ ap (skip between) c.behind_comment.ensures ∙ sym (inside_is l) ∙ ap (λ (b : Bool). front b l) (sym c.if-in_comment.true)

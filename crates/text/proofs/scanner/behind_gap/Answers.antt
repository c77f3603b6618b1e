use Rattle.std.proofs.Common.{◌∙◌, rules}
use Rattle.text.proofs.Gaps.{gap_comment}
use Rattle.text.proofs.scanner.behind_gap.Goals as goal

pub loop-rest-preserved-then-comments : goal.loop-rest-preserved-then-comments
loop-rest-preserved-then-comments c =
    gap_comment c.args.comments c.loop-rest.rest.now c.behind_comment-rest.result.now c.if-comments.true (search rules) (search rules) (search rules) c.behind_comment-rest.ensures
    ∙ c.loop-rest.invariant

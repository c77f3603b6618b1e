use Rattle.std.proofs.Common.{◌-◌}
use Rattle.expressions.proofs.Cuts.{part_least}
use Rattle.expressions.proofs.condition.name_at.Goals as goal

pub returns : goal.returns
returns c =
    part_least c.args.line.now (c.args.at - 1) c.args.len c.saturating_sub.result c.min-start.result c.min.result
    c.saturating_sub.ensures c.min-start.ensures c.min.ensures

use Rattle.std.proofs.Common.{rules}
use Rattle.judging.proofs.layer_over.Goals as goal

pub returns : goal.returns
returns g c =
    record {
      made = c.make.result;
      attempts = c.make.ensures.attempts;
      makes = c.make.ensures.makes;
      is = search rules;
    }

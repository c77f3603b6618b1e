use Rattle.names.specs.Names.{texts}
use Rattle.stack_machine.specs.Works.{Answers}
use Rattle.truth.specs.Worked.{env_of}
use Rattle.truth.proofs.Value.{works_truth}
use Rattle.truth.proofs.holds.Goals as goal

pub returns : goal.returns
returns c e k =
    let w = c.in-Ok.ensures.works e k in
    let t = works_truth (env_of (texts c.args.names.now) c.args.flags.now) w.0 e Answers _ _ _ w.1 in cc (t.0)

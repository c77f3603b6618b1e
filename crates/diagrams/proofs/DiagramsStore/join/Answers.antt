use Rattle.std.proofs.Common.{arith}
use Rattle.diagrams.proofs.Operations.{asked_connective, outcome}
use Rattle.diagrams.proofs.DiagramsStore.join.Goals as goal

pub returns : goal.returns
returns c =
    let s = c.args.self.now in
    outcome s c.operate.new.words _ _ _ _ _ (omega (arith, c.operate.auto.words)) (asked_connective s.words.now c.args.how c.args.a c.args.b) c.operate.result c.operate.ensures

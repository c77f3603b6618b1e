use Rattle.std.proofs.Common.{arith}
use Rattle.diagrams.proofs.Operations.{asked_switch, outcome}
use Rattle.diagrams.proofs.DiagramsStore.switch.Goals as goal

pub returns : goal.returns
returns c =
    let s = c.args.self.now in
    outcome s c.switch_cell.new.words _ _ _ _ _ (omega (arith, c.switch_cell.auto.words)) (asked_switch s.words.now c.args.i) c.switch_cell.result c.switch_cell.ensures

use Rattle.std.proofs.Common.{arith}
use Rattle.layers.proofs.Growth.{switch_over}
use Rattle.layers.proofs.LayerStore.switch.Goals as goal

pub returns : goal.returns
returns g c = switch_over c.args.self.now c.args.i (omega (arith, c.if-i-switches.false, c.switches.ensures))

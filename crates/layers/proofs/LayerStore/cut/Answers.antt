use Rattle.layers.proofs.Growth.{layer_cut}
use Rattle.layers.proofs.LayerStore.cut.Goals as goal

pub returns : goal.returns
returns g c = layer_cut c.args.self.now c.cut.new.self _ c.max.result c.args.to c.max.ensures c.cut.ensures

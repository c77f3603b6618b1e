use Rattle.stores.specs.Joined.{joined}
use Rattle.layers.proofs.Growth.{outcome_fits, join_over}
use Rattle.layers.proofs.LayerStore.join.Goals as goal

pub invariant_of-self : goal.invariant_of-self
invariant_of-self g c =
    let l = c.args.self.now in
    record { fits = outcome_fits g.S.Store l.below c.join.new.self (joined c.args.how c.args.a c.args.b) c.join.result l.fits c.join.ensures }

pub returns : goal.returns
returns g c = join_over c.args.self.now c.join.new.self _ c.args.how c.args.a c.args.b c.join.result c.join.ensures

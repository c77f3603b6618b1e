use Rattle.std.proofs.Common.{◌≡◌, ap, arith}
use Rattle.names.specs.Names.{texts}
use Rattle.conditionals.proofs.Turns.{texts_length, beginning_none, beginning_some}
use Rattle.conditionals.proofs.Shape.new.Goals as goal

pub returns-in_default : goal.returns-in_default
returns-in_default c = beginning_none (texts c.args.switches.now) (omega (arith, texts_length c.args.switches.now, c.in_default.ensures))

pub returns : goal.returns
returns c =
    let e : texts c.in-Ok.names.items ≡ texts c.args.switches.now = ap texts c.in-Ok.ensures.0 in
    rw (c.new.ensures, e) (beginning_some (texts c.args.switches.now) (omega (arith, texts_length c.args.switches.now, c.in-Ok.ensures.1)))

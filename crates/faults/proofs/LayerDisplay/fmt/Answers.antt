use Rattle.std.proofs.Common.{sym, subst}
use Rattle.std.specs.Fmt.{WritesOnOk}
use Rattle.faults.specs.declared.Layer.{Layer}
use Rattle.faults.specs.Shown.{layer_text}
use Rattle.faults.proofs.LayerDisplay.fmt.Goals as goal

pub returns-in-Conditionals-clause-writes : goal.returns-in-Conditionals-clause-writes
returns-in-Conditionals-clause-writes g c =
    subst (λ (l : Layer). WritesOnOk g.W.Write.write_str_gives c.args.f.now c.write_str-in-Conditionals.result (layer_text l) c.write_str-in-Conditionals.new.self) (sym c.in-Conditionals.is) c.write_str-in-Conditionals.ensures.writes

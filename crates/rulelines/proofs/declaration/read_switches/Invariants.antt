use Rattle.std.proofs.Common.{◌≡◌, length, vec_items}
use Rattle.lines.specs.Lines.{lines_of}
use Rattle.names.specs.Names.{texts}
use Rattle.rulelines.specs.Declaring.{declared, declared_in}
use Rattle.rulelines.proofs.declaration.read_switches.Given as goal

abbrev pub invariant-loop-line : goal.invariant-loop-line
invariant-loop-line l = declared (texts (vec_items l.declared.names)) l.declared.lines l.declared.rest.now (lines_of l.declared.rest.now) ≡ declared_in l.text

abbrev pub decreases-loop-line : goal.decreases-loop-line
decreases-loop-line l = length l.declared.rest.now

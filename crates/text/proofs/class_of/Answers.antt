use Rattle.std.proofs.Common.{rules}
use Rattle.text.proofs.Table.{lookup}
use Rattle.text.proofs.class_of.Goals as goal

pub returns : goal.returns
returns c = search (rules, lookup)

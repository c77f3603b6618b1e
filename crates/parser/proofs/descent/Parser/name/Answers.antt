use Rattle.parser.proofs.Parts.{name_yes}
use Rattle.parser.proofs.descent.Parser.name.Goals as goal

pub returns-in-Name : goal.returns-in-Name
returns-in-Name c = name_yes c.args.self.now c.advance.new.self c.emit.new.self c.in-Name.part c.in-Name.is c.advance.ensures c.emit.ensures

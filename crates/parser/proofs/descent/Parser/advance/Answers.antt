use Rattle.std.proofs.Common.{refl}
use Rattle.parser.proofs.Moves.{advanced}
use Rattle.parser.proofs.descent.Parser.advance.Goals as goal

pub returns : goal.returns
returns c = advanced c.args.self.now _ c.requires c.next-self.ensures.token c.next-self.ensures.line refl refl

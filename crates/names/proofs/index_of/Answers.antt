use Rattle.std.proofs.Common.{◌∙◌, rules, tests}
use Rattle.std.proofs.lemmas.Iterator.{YieldsList-from_slice}
use Rattle.std.proofs.lemmas.Iterator.Search.{position_from_yields_List}
use Rattle.names.proofs.Turns.{alike, index_is}
use Rattle.names.proofs.index_of.Goals as goal

pub returns : goal.returns
returns c =
    position_from_yields_List (alike c.args.name.now) _ _ c.position.result c.position.ensures.ran (YieldsList-from_slice c.args.names.now (cc)) (λ x b q k. search (rules, tests))
    ∙ index_is c.args.names.now c.args.name.now

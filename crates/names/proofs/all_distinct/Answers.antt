use Rattle.std.proofs.Common.{◌∙◌, rules, tests}
use Rattle.std.proofs.lemmas.Iterator.{YieldsList-from_slice}
use Rattle.std.proofs.lemmas.Iterator.Consumers.{YieldsList-from_enumerate}
use Rattle.std.proofs.lemmas.Iterator.Search.{all_from_yields_List}
use Rattle.names.proofs.Turns.{new_at, all_is}
use Rattle.names.proofs.all_distinct.Goals as goal

pub returns : goal.returns
returns c =
    let ns = c.args.names.now in
    all_from_yields_List (new_at ns) _ _ c.all.result c.all.ensures.ran (YieldsList-from_enumerate (YieldsList-from_slice ns (cc)) (cc)) (λ x b q k. search (rules, tests))
    ∙ all_is ns

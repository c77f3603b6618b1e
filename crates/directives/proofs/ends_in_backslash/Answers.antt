use Rattle.std.proofs.Common.{◌≡◌, eqb, refl, ◌∙◌, rules, tests}
use Rattle.std.proofs.lemmas.Bool.Decides.{Decides-at}
use Rattle.std.proofs.lemmas.Iterator.Adapters.{YieldsList-from_rev_slice}
use Rattle.std.proofs.lemmas.Iterator.Search.{find_from_yields_List}
use Rattle.directives.specs.Directives.{final}
use Rattle.directives.proofs.Lines.{solid_byte, last_is, is_last}
use Rattle.directives.proofs.ends_in_backslash.Goals as goal

pub returns : goal.returns
returns c =
    let l = c.args.line.now in
    let f = find_from_yields_List solid_byte _ _ c.find.result c.find.ensures.ran (YieldsList-from_rev_slice l (cc)) (λ x b q k. search (rules, tests)) in
    let v : c.eq.result ≡ eqb (final 0 l) 92 = c.eq.ensures ∙ is_last l c.find.result _ refl f in
    record { value = v; law = Decides-at _ _ v (last_is l) }

use Rattle.std.proofs.Common.{◌≡◌, ap, ◌∙◌, rules, tests}
use Rattle.std.proofs.lemmas.Bool.Decides.{Decides-at}
use Rattle.directives.specs.Gaps.{front}
use Rattle.directives.specs.Directives.{alone}
use Rattle.directives.proofs.Lines.{lone_hash, alone_of}
use Rattle.directives.proofs.is_lone_hash.Goals as goal

pub returns : goal.returns
returns c =
    let k = c.args.in_comment in
    let l = c.args.line.now in
    let v : c.is_some_and.result ≡ alone (front k l) =
    alone_of c.front_of.result.now c.after_hash.result c.is_some_and.result c.after_hash.ensures c.is_some_and.ensures (λ t q. search (rules, tests))
    ∙ ap alone c.front_of.ensures in
    record { value = v; law = Decides-at _ _ v (lone_hash k l) }

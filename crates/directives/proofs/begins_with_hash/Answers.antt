use Rattle.std.proofs.Common.{◌≡◌, ap, ◌∙◌}
use Rattle.std.proofs.lemmas.Bool.Decides.{Decides-at}
use Rattle.directives.specs.Gaps.{front}
use Rattle.directives.specs.Directives.{hash}
use Rattle.directives.proofs.Lines.{hash_first, hash_some}
use Rattle.directives.proofs.begins_with_hash.Goals as goal

pub returns : goal.returns
returns c =
    let k = c.args.in_comment in
    let l = c.args.line.now in
    let v : c.is_some.result ≡ hash (front k l) =
    c.is_some.ensures ∙ hash_some c.front_of.result.now c.after_hash.result c.after_hash.ensures ∙ ap hash c.front_of.ensures in
    record { value = v; law = Decides-at _ _ v (hash_first k l) }

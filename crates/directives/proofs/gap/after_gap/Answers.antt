use Rattle.std.proofs.Common.{◌≡◌, ◌≤◌, false, length, get_or, ◌∙◌, rules}
use Rattle.directives.specs.Gaps.{blank}
use Rattle.directives.proofs.Skips.{skip_comment, stopped}
use Rattle.directives.proofs.gap.after_gap.Goals as goal

pub loop-rest-preserved-in-42-1 : goal.loop-rest-preserved-in-42-1
loop-rest-preserved-in-42-1 c =
    (skip_comment c.loop-rest.rest.now c.behind_comment-rest.result.now (search rules) (search rules) (search rules) c.behind_comment-rest.ensures).0 ∙ c.loop-rest.invariant

pub returns-in_default : goal.returns-in_default
returns-in_default c =
    let t = c.loop-rest.rest.now in
    let b : 1 ≤ length t → blank (get_or t 0 0) ≡ false = search rules in
    let n : get_or t 0 0 ≡ 47 → get_or t 1 0 ≡ 42 → ⊥ = search rules in
    let s = stopped c.args.line.now t c.loop-rest.invariant b n in
    record { value = s.value; law = s.law; only = s.only }

pub returns-in_default-2 : goal.returns-in_default-2
returns-in_default-2 c =
    let t = c.loop-rest.rest.now in
    let b : 1 ≤ length t → blank (get_or t 0 0) ≡ false = search rules in
    let n : get_or t 0 0 ≡ 47 → get_or t 1 0 ≡ 42 → ⊥ = search rules in
    let s = stopped c.args.line.now t c.loop-rest.invariant b n in
    record { value = s.value; law = s.law; only = s.only }

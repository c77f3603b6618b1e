use Rattle.std.proofs.Common.{◌≡◌, length, rules, tests, ap, ◌∙◌}
use Rattle.std.proofs.lemmas.Iterator.{YieldsList-from_slice}
use Rattle.std.proofs.lemmas.Iterator.Search.{position_from_yields_List}
use Rattle.std.specs.List.{position}
use Rattle.std.specs.Option.{unwrap_or}
use Rattle.text.proofs.Runs.{ends, run_front}
use Rattle.text.proofs.scanner.run.Goals as goal

pub returns : goal.returns
returns c =
    let s = c.args.s.now in
    let p : c.position.result ≡ position ends s =
    position_from_yields_List ends _ _ c.position.result c.position.ensures.ran (YieldsList-from_slice s (cc)) (λ x b q k. search (rules, tests)) in
    let f = run_front s c.unwrap_or.result (c.unwrap_or.ensures ∙ ap (λ o. unwrap_or o (length s)) p) in
    record { front = f.0; within = f.1 }

use Rattle.std.proofs.Common.{◌+◌, Some, None, length, ap, ◌∙◌, arith, rules, tests}
use Rattle.std.proofs.lemmas.Iterator.{YieldsList-from_slice}
use Rattle.std.proofs.lemmas.Iterator.Search.{position_from_yields_List}
use Rattle.std.proofs.lemmas.List.{take_rest}
use Rattle.lines.proofs.Lines.{feed, at_feed, no_feed, first_line_is, past_less, divided_at}
use Rattle.lines.proofs.first_line.Goals as goal

pub returns-in-Some : goal.returns-in-Some
returns-in-Some c =
    let s = c.args.text.now in
    let i = c.in-Some.i in
    let p = at_feed s i (position_from_yields_List feed _ _ (Some i) c.in-Some.ensures.ran (YieldsList-from_slice s (cc)) (λ x b q k. search (rules, tests))) in
    let behind = take_rest s (i + 1) ∙ p.1 in
    record {
      content = p.0;
      behind = behind;
      divides = divided_at s _ _ p.0 behind;
      first = first_line_is s;
      shorter = λ h. omega (arith, ap length behind, past_less s h);
    }

pub returns-in-None : goal.returns-in-None
returns-in-None c =
    let s = c.args.text.now in
    let p = no_feed s (position_from_yields_List feed _ _ None c.in-None.ensures.ran (YieldsList-from_slice s (cc)) (λ x b q k. search (rules, tests))) in
    record {
      content = p.0;
      behind = p.1;
      divides = divided_at s _ _ p.0 p.1;
      first = first_line_is s;
      shorter = λ h. omega arith;
    }

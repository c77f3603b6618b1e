use Rattle.std.proofs.Common.{arith, rules}
use Rattle.std.proofs.lemmas.List.{places}
use Rattle.cells.proofs.Filled.{out_of_part, in_part}
use Rattle.operations.proofs.working.sweep.Goals as goal

pub returns : goal.returns
returns c =
    record {
      outside = record { length_same = search (rules, places); same_there = λ i o. search (rules, out_of_part) };
      idle = λ i lo hi. in_part 66 1024 c.args.words.now c.fill.new.self i (omega arith) (search (rules, places)) lo hi (λ j h. search (rules, places));
    }

use Rattle.std.proofs.Common.{refl}
use Rattle.expressions.proofs.Laws.{exact, one_only, at_first, numbered}
use Rattle.expressions.proofs.grammar_law.Goals as goal

pub returns : goal.returns
returns c = record {
  exact = exact;
  one = one_only;
  place = at_first;
  number = numbered;
  examples = (refl, refl, refl, refl, refl, refl, refl, refl, refl, refl, refl, refl, refl, refl, refl, refl, refl, refl, refl, refl, refl);
}

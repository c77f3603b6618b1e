use Rattle.std.proofs.Common.{arith}
use Rattle.diagrams.proofs.Makings.{means_new}
use Rattle.diagrams.proofs.Sets.{canonical_numbers, added_reachable}
use Rattle.diagrams.proofs.DiagramsInWords.make.Goals as goal

pub returns-in_err-prepare-clause-canonical : goal.returns-in_err-prepare-clause-canonical
returns-in_err-prepare-clause-canonical c = canonical_numbers

pub returns-in_err-prepare-clause-reachable : goal.returns-in_err-prepare-clause-reachable
returns-in_err-prepare-clause-reachable c = added_reachable

pub returns-clause-made : goal.returns-clause-made
returns-clause-made c =
    let p = c.in_ok-prepare.ensures in
    record { fine = p.0; means = means_new c.args.words.now c.args.n _ (omega (arith, c.prepare.auto.words)) p.1; lies = p.1 }

pub returns-clause-canonical : goal.returns-clause-canonical
returns-clause-canonical c = canonical_numbers

pub returns-clause-reachable : goal.returns-clause-reachable
returns-clause-reachable c = added_reachable

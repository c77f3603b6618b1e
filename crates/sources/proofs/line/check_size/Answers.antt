use Rattle.std.proofs.Common.{arith, inl}
use Rattle.sources.proofs.Lines.{lines_few}
use Rattle.sources.proofs.line.check_size.Goals as goal

pub count-requires-clause-fits : goal.count-requires-clause-fits
count-requires-clause-fits c = inl (omega (arith, lines_few c.args.text.now))

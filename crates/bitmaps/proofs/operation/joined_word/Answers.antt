use lib.Bits.{or_lt}
use Rattle.bitmaps.proofs.Writes.{and_bits, or_bits, less_bits}
use Rattle.bitmaps.proofs.operation.joined_word.Goals as goal

pub returns-in-Both-clause-bits : goal.returns-in-Both-clause-bits
returns-in-Both-clause-bits c = rw c.in-Both.is (and_bits c.args.a c.args.b)

pub returns-in-Either-clause-bits : goal.returns-in-Either-clause-bits
returns-in-Either-clause-bits c = rw c.in-Either.is (or_bits c.args.a c.args.b)

pub returns-in-Either-clause-unused : goal.returns-in-Either-clause-unused
returns-in-Either-clause-unused c = λ m p q. or_lt m c.args.a c.args.b p q

pub returns-in-Less-clause-bits : goal.returns-in-Less-clause-bits
returns-in-Less-clause-bits c = rw c.in-Less.is (λ p h. less_bits c.args.a c.args.b p c.ranges.b.fits h)

-- The numbers of the faults of a source's lines. Assumes nothing.
--   of_lines n l        the refusal n of the lines, at line l
--   of_conditionals n l the refusal n of the conditionals, at line l
--   line_number r, conditional_number r   the number of a reason
--   line_fault f, conditional_fault f, described f   the refusal that a fault is
use Rattle.std.specs.Prelude.{ℕ}
use Rattle.faults.specs.declared.Refusal.{Refusal}
use Rattle.faults.specs.declared.Layer.TheVariants.{Lines, Conditionals}
use Rattle.expressions.specs.Faults.{described as expression}
use Rattle.sources.specs.declared.fault.LineFault.{LineFault}
use Rattle.sources.specs.declared.fault.LineFault.TheVariants.{TooLarge, Line}
use Rattle.sources.specs.declared.fault.LineReason.{LineReason}
use Rattle.sources.specs.declared.fault.LineReason.TheVariants.{Continued, CommentOpen, HashBehindComment}
use Rattle.sources.specs.declared.fault.ConditionalFault.{ConditionalFault}
use Rattle.sources.specs.declared.fault.ConditionalReason.{ConditionalReason}
use Rattle.sources.specs.declared.fault.ConditionalReason.TheVariants.{OutsideChain, TooManyChains, TooManyBlocks, TooManyNames, ChainOpen}
use Rattle.sources.specs.declared.fault.SourceFault.{SourceFault}
use Rattle.sources.specs.declared.fault.SourceFault.TheVariants as source

abbrev pub of_lines : ℕ → ℕ → Refusal
of_lines number line = record { number = number; layer = Lines; line = line; byte = 0 }

abbrev pub of_conditionals : ℕ → ℕ → Refusal
of_conditionals number line = record { number = number; layer = Conditionals; line = line; byte = 0 }

abbrev pub line_number : LineReason → ℕ
line_number Continued = 9
line_number CommentOpen = 10
line_number HashBehindComment = 11

abbrev pub conditional_number : ConditionalReason → ℕ
conditional_number OutsideChain = 17
conditional_number TooManyChains = 18
conditional_number TooManyBlocks = 19
conditional_number TooManyNames = 20
conditional_number ChainOpen = 21

abbrev pub line_fault : LineFault → Refusal
line_fault TooLarge = of_lines 8 0
line_fault (Line reason line) = of_lines (line_number reason) line

abbrev pub conditional_fault : ConditionalFault → Refusal
conditional_fault f = of_conditionals (conditional_number f.reason) f.line

abbrev pub described : SourceFault → Refusal
described (source.Lines f) = line_fault f
described (source.Expression f) = expression f
described (source.Conditionals f) = conditional_fault f

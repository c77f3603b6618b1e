use Rattle.std.proofs.Common.{◌≡◌, drop}
use Rattle.scanning.specs.Modes.{steps}
use Rattle.scanning.proofs.Scanner.line.Given as goal

-- the bytes that are left lead from the present mode to where all bytes lead
abbrev pub invariant-loop-byte : goal.invariant-loop-byte
invariant-loop-byte l = steps l.self.mode (drop l.byte-index l.bytes) ≡ steps l.initial.self.mode l.bytes

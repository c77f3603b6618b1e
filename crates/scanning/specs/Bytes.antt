-- Bytes of a source. Assumes nothing.
--   Bytes          some bytes in order, each as its number
use Rattle.std.specs.Prelude.{ℕ, List}

abbrev pub Bytes : Type 0
Bytes = List ℕ

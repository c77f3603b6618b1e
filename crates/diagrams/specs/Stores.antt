-- A diagram store as a value. Assumes nothing.
--   with_words s ws v   the store s, its words being ws, which are in order
--   rollback s k        the store s as a release to k leaves it
use Rattle.std.specs.Prelude.{ℕ, List}
use Rattle.cells.specs.Words.{Valid}
use Rattle.diagrams.specs.Cutting.{cut_words, valid_kept}
use Rattle.diagrams.specs.declared.Diagrams.{Diagrams}

abbrev pub with_words : Diagrams → (ws : List ℕ) → Valid ws → Diagrams
with_words s ws v = record { words = record { ref_ptr = s.words.ref_ptr; ghost_name = s.words.ghost_name; now = ws }; valid = v }

abbrev pub rollback : Diagrams → ℕ → Diagrams
rollback s k = with_words s (cut_words s.words.now k) (valid_kept s.words.now s.valid k)

-- A bitmap store as a value. Assumes nothing.
--   with_words s ws v   the store s, its words being ws, which are in order
--   rollback s k     the store s as a release to k leaves it
use Rattle.std.specs.Prelude.{ℕ, List}
use Rattle.stores.specs.Model.{kept}
use Rattle.bitmaps.specs.Meaning.{means, Valid, cut_words}
use Rattle.bitmaps.specs.Cutting.{valid_kept}
use Rattle.bitmaps.specs.declared.Bitmaps.{Bitmaps}

abbrev pub with_words : Bitmaps → (ws : List ℕ) → Valid ws → Bitmaps
with_words s ws v = record { words = record { ref_ptr = s.words.ref_ptr; ghost_name = s.words.ghost_name; now = ws }; valid = v }

abbrev pub rollback : Bitmaps → ℕ → Bitmaps
rollback s k = with_words s (cut_words s.words.now (kept (means s.words.now) k)) (valid_kept s.words.now s.valid k)

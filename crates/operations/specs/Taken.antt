-- Two cells taken apart. Assumes nothing.
--   Parted ws a b p   p is the highest switch that a and b ask, and their sides at it
use Rattle.std.specs.Prelude.{◌≡◌, ℕ, suc, ◌+◌, ◌<◌, ◌≤◌, List}
use Rattle.cells.specs.Cells.{level, low_at, high_at}
use Rattle.cells.specs.Words.{switches, cells_of}
use Rattle.operations.specs.declared.apply.Parts.{Parts}

pub record Parted (ws : List ℕ) (a b : ℕ) (p : Parts) : Type 0 where
  pub switch : p.switch < switches ws
  pub level_a : level (cells_of ws) a ≤ suc p.switch
  pub level_b : level (cells_of ws) b ≤ suc p.switch
  pub low_a : p.a.low ≡ low_at (cells_of ws) p.switch a
  pub low_b : p.b.low ≡ low_at (cells_of ws) p.switch b
  pub high_a : p.a.high ≡ high_at (cells_of ws) p.switch a
  pub high_b : p.b.high ≡ high_at (cells_of ws) p.switch b
  pub lower_low : p.a.low + p.b.low < a + b
  pub lower_high : p.a.high + p.b.high < a + b

-- What the words of a diagram store mean. Assumes nothing.
--   cell_set n cs c     the set of cell c, of n switches
--   model_of n cs cap   the store of n switches with the cells cs and room for cap
--   means ws           the store that the words hold
--   lacking ws op      how many cells of the reduced diagram of an operation's result are not yet held
use Rattle.std.specs.Prelude.{ℕ, ◌-◌, ◌^◌, ◌&&◌, List, map, length, nat_lt}
use Rattle.std.specs.List.{range_with_len}
use Rattle.stores.specs.Sets.{Set, everything}
use Rattle.stores.specs.Model.{Model}
use Rattle.stores.specs.Outcome.{Op, result}
use Rattle.cells.specs.Cells.{Cell, mean, build}
use Rattle.cells.specs.Words.{switches, cells_of, capacity}

abbrev pub cell_set : ℕ → List Cell → ℕ → Set
cell_set n cs c = λ k. nat_lt k (2 ^ n) && mean cs c k

abbrev pub model_of : ℕ → List Cell → ℕ → Model
model_of n cs cap =
    record {
      n = n;
      allowed = everything n;
      held = map (cell_set n cs) (range_with_len 0 (length cs));
      floor = 2;
      capacity = cap;
    }

abbrev pub means : List ℕ → Model
means ws = model_of (switches ws) (cells_of ws) (capacity ws)

abbrev pub lacking : List ℕ → Op → ℕ
lacking ws op = length (build (cells_of ws) (switches ws) (result (means ws) op)).0 - length (cells_of ws)

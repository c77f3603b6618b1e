-- Words with cells taken off. Assumes nothing.
--   first_cells ws k     the first k cells
--   rolled_word ws k i   word i once the cells from k on are taken off their chains and away
--   rolled ws k         all the words
use Rattle.std.specs.Prelude.{ℕ, ◌+◌, ◌-◌, ◌*◌, cond, ◌&&◌, List, map, length, ◌==◌, nat_le, nat_lt, slice_index}
use Rattle.std.specs.List.{range_with_len}
use Rattle.cells.specs.Cells.{Cell}
use Rattle.cells.specs.Words.{cell_at, latest, capacity}

abbrev pub first_cells : List ℕ → ℕ → List Cell
first_cells ws k = map (cell_at ws) (range_with_len 0 k)

abbrev pub rolled_word : List ℕ → ℕ → ℕ → ℕ
rolled_word ws k i =
    cond (i == 1) k
    (cond (nat_le 2 i && nat_lt i 66) (latest (first_cells ws k) (i - 2) k)
    (cond (nat_le (1090 + 4 * k) i && nat_lt i (1090 + 4 * capacity ws)) 0 (slice_index ws i)))

abbrev pub rolled : List ℕ → ℕ → List ℕ
rolled ws k = map (rolled_word ws k) (range_with_len 0 (length ws))

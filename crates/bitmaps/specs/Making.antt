-- Making a bitmap store. Assumes nothing.
--   due ws n              the refusal due to making a store of n switches in the words ws: too many switches before too few words
--   room ws n             how many sets it has room for
--   new_word n len ws i   word i of the new store, in words that were ws
--   new_words n ws        all its words
--   renewed ws n ws'      ws' are these words
use Rattle.std.specs.Prelude.{◌≡◌, ℕ, cond, List, map, length, Some, None, Option, ◌==◌, nat_lt, slice_index}
use Rattle.std.specs.List.{range_with_len}
use Rattle.stores.specs.declared.fault.StoreFault.{StoreFault}
use Rattle.stores.specs.declared.fault.StoreFault.TheVariants.{TooSmall, TooManySwitches}
use Rattle.bitmaps.specs.Layout.{full, slots, start}

abbrev pub room : List ℕ → ℕ → ℕ
room ws n = slots (length ws) n

abbrev pub due : List ℕ → ℕ → Option StoreFault
due ws n = cond (nat_lt 10 n) (Some TooManySwitches) (cond (nat_lt (room ws n) 2) (Some TooSmall) None)

abbrev pub new_word : ℕ → ℕ → List ℕ → ℕ → ℕ
new_word n len ws i =
    cond (i == 0) n
    (cond (i == 1) 2
    (cond (nat_lt i (start n 1)) 0
    (cond (nat_lt i (start n 2)) (full n)
    (cond (nat_lt i (start n (slots len n))) 0 (slice_index ws i)))))

abbrev pub new_words : ℕ → List ℕ → List ℕ
new_words n ws = map (new_word n (length ws) ws) (range_with_len 0 (length ws))

abbrev pub renewed : List ℕ → ℕ → List ℕ → Type 0
renewed ws n ws' = ws' ≡ new_words n ws

-- Where a bitmap store lies in its words: the number of switches, the number of slots, then the slots. Assumes nothing.
--   width n       the words of a slot, for n switches
--   used n        how many bits of each word of a slot are used
--   full n        a word of the slot that has every configuration
--   slots len n   how many slots go into len words: the capacity
--   start n j     where slot j begins
use Rattle.std.specs.Prelude.{ℕ, ◌+◌, ◌-◌, ◌*◌, ◌/◌, ◌^◌, min}

abbrev pub width : ℕ → ℕ
width n = 2 ^ (n - 6)

abbrev pub used : ℕ → ℕ
used n = min (2 ^ n) 64

abbrev pub full : ℕ → ℕ
full n = 2 ^ used n - 1

abbrev pub slots : ℕ → ℕ → ℕ
slots len n = min ((len - 2) / width n) 65535

abbrev pub start : ℕ → ℕ → ℕ
start n j = 2 + j * width n

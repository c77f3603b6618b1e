-- What the words of a bitmap store mean. Assumes nothing.
--   slot n ws j            the set in slot j: configuration k is bit k mod 64 (0 lowest) of word k div 64
--   model_of n c len ws     the store with n switches and c slots in len words
--   means ws               the store that the words hold
--   ValidOf n c len ws     such a store is in order: slot 0 is empty and slot 1 full, unused bits and free slots are 0
--   Valid ws               the words are in order
--   Held n ws              so much of it as reading needs: the held slots lie within the words, and their unused bits are 0
--   one op                 every operation needs one slot
--   cut_word n cap ws k i   word i once the slots from k on are taken off, of the cap that there is room for
--   cut_words ws k          the words with the slots from k on taken off
use Rattle.std.specs.Prelude.{◌≡◌, ℕ, ◌+◌, ◌/◌, ◌%◌, ◌^◌, ◌<◌, ◌≤◌, cond, ◌&&◌, List, map, length, ◌==◌, nat_le, nat_lt, slice_index}
use Rattle.std.specs.List.{range_with_len}
use Rattle.stores.specs.Sets.{Set, everything, on}
use Rattle.stores.specs.Model.{Model}
use Rattle.stores.specs.Outcome.{Op}
use Rattle.bitmaps.specs.Layout.{width, used, full, slots, start}

abbrev pub slot : ℕ → List ℕ → ℕ → Set
slot n ws j = λ k. nat_lt k (2 ^ n) && on (k % 64) (slice_index ws (start n j + k / 64))

abbrev pub model_of : ℕ → ℕ → ℕ → List ℕ → Model
model_of n c len ws =
    record {
      n = n;
      allowed = everything n;
      held = map (slot n ws) (range_with_len 0 c);
      floor = 2;
      capacity = slots len n;
    }

abbrev pub means : List ℕ → Model
means ws = model_of (slice_index ws 0) (slice_index ws 1) (length ws) ws

pub record ValidOf (n c len : ℕ) (ws : List ℕ) : Type 0 where
  pub header : 2 ≤ len
  pub few : n ≤ 10
  pub floor : 2 ≤ c
  pub room : c ≤ slots len n
  pub none : (t : ℕ) → t < width n → slice_index ws (start n 0 + t) ≡ 0
  pub top : (t : ℕ) → t < width n → slice_index ws (start n 1 + t) ≡ full n
  pub unused : (i : ℕ) → 2 ≤ i → i < start n c → slice_index ws i < 2 ^ used n
  pub free : (i : ℕ) → start n c ≤ i → i < start n (slots len n) → slice_index ws i ≡ 0

abbrev pub Valid : List ℕ → Type 0
Valid ws = ValidOf (slice_index ws 0) (slice_index ws 1) (length ws) ws

pub record Held (n : ℕ) (ws : List ℕ) : Type 0 where
  pub floor : 2 ≤ slice_index ws 1
  pub within : start n (slice_index ws 1) ≤ length ws
  pub unused : (i : ℕ) → 2 ≤ i → i < start n (slice_index ws 1) → slice_index ws i < 2 ^ used n

abbrev pub one : Op → ℕ
one op = 1

abbrev pub cut_word : ℕ → ℕ → List ℕ → ℕ → ℕ → ℕ
cut_word n cap ws k i = cond (i == 1) k (cond (nat_le (start n k) i && nat_lt i (start n cap)) 0 (slice_index ws i))

abbrev pub cut_words : List ℕ → ℕ → List ℕ
cut_words ws k = map (cut_word (slice_index ws 0) (slots (length ws) (slice_index ws 0)) ws k) (range_with_len 0 (length ws))

-- The run of letters and digits in front. Assumes nothing.
--   ends           where it ends, as the place of the first other byte
--   run_front      what stands before that place is the run
use Rattle.std.proofs.Common.{◌≡◌, ℕ, ◌+◌, ◌≤◌, Bool, true, false, cond, not, [], ◌∷◌, length, take, refl, ap, ◌∙◌, arith, one-add}
use Rattle.std.specs.List.{position, position_or_len}
use Rattle.std.specs.Option.{unwrap_or}
use Rattle.std.proofs.lemmas.List.Sums.{prefix_len-le-length}
use Rattle.text.specs.Tokens.{Bytes, word_byte, run}

abbrev pub ends : ℕ → Bool
ends b = not (word_byte b)

run_is : (s : Bytes) → take (position_or_len ends s) s ≡ run s
run_is [] = refl
run_is (x ∷ s) = go (word_byte x) (run_is s)
  where
    go : (b : Bool) → take (position_or_len ends s) s ≡ run s → take (cond (not (not b)) (1 + position_or_len ends s) 0) (x ∷ s) ≡ cond b (x ∷ run s) []
    go true e = rw one-add (ap (λ (t : Bytes). x ∷ t) e)
    go false e = refl

place_is : (s : Bytes) → unwrap_or (position ends s) (length s) ≡ position_or_len ends s
place_is s =
    let w = prefix_len-le-length (λ b. not (ends b)) s in
    grind arith

pub run_front : (s : Bytes) (n : ℕ) → n ≡ unwrap_or (position ends s) (length s) → (take n s ≡ run s) × (n ≤ length s)
run_front s n e =
    let w = prefix_len-le-length (λ b. not (ends b)) s in
    let k = e ∙ place_is s in
    (ap (λ (m : ℕ). take m s) k ∙ run_is s, omega arith)

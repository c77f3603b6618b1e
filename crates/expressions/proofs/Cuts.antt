-- A part of a list, where its bounds are cut to the list's length.
use Rattle.std.proofs.Common.{◌≡◌, ℕ, ◌+◌, ◌-◌, ◌<◌, ◌≤◌, min, List, length, take, drop, sym, ap, ◌∙◌, ⊎_elim, arith, length-drop, drop_of_length-le, take_all}
use native.Mathlib.Nat.{min-eq_left, min-eq_right}
use Rattle.std.proofs.lemmas.Bool.{cases_lt}

pub take_least : {A : Type 0} (xs : List A) (n m k : ℕ) → m ≡ min n (length xs) → k ≡ m → take k xs ≡ take n xs
take_least xs n m k h e =
    ⊎_elim
    (λ (l : length xs < n). let le : length xs ≤ n = omega arith in let g : length xs ≤ k = omega (arith, min-eq_right le) in take_all k xs g ∙ sym (take_all n xs le))
    (λ (l : n ≤ length xs). ap (λ (i : ℕ). take i xs) (e ∙ h ∙ min-eq_left l))
    (cases_lt (length xs) n)

drop_least : {A : Type 0} (xs : List A) (n m : ℕ) → m ≡ min n (length xs) → drop m xs ≡ drop n xs
drop_least xs n m h =
    ⊎_elim
    (λ (l : length xs < n). let le : length xs ≤ n = omega arith in let g : length xs ≤ m = omega (arith, min-eq_right le) in drop_of_length-le xs g ∙ sym (drop_of_length-le xs le))
    (λ (l : n ≤ length xs). ap (λ (i : ℕ). drop i xs) (h ∙ min-eq_left l))
    (cases_lt (length xs) n)

pub part_least : (xs : List ℕ) (from len b s m : ℕ) → b ≡ from → s ≡ min b (length xs) → m ≡ min len (length xs - s) → take ((s + m) - s) (drop s xs) ≡ take len (drop from xs)
part_least xs from len b s m e h g =
    let k : (s + m) - s ≡ m = omega arith in
    take_least (drop s xs) len m ((s + m) - s) (g ∙ ap (λ (i : ℕ). min len i) (sym (length-drop s xs))) k
    ∙ ap (λ (z : List ℕ). take len z) (drop_least xs b s h ∙ ap (λ (i : ℕ). drop i xs) e)

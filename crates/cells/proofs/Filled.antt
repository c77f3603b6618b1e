-- A part of the words that is filled with zeros.
use Rattle.std.proofs.Common.{◌≡◌, ℕ, ◌+◌, ◌<◌, ◌≤◌, ◌≢◌, ◌⊎◌, List, length, get_or, set, sym, ◌∙◌, subst, inl, inr, ⊎_elim, arith, rules}
use Rattle.std.proofs.lemmas.List.{places, same_lists, get_or_default, length-set, get_or-set_same, get_or-set_other}
use Rattle.std.proofs.lemmas.Bool.{cases_lt, cases_eq}
use borrow.Rule.Slice.PartMut.{put_mid}

pub out_of_part : (a k : ℕ) (xs ys : List ℕ) (i : ℕ) → a + k ≤ length xs → length ys ≡ k → (i < a) ⊎ (a + k ≤ i) → get_or (put_mid a k xs ys) i 0 ≡ get_or xs i 0
out_of_part a k xs ys i h l o = ⊎_elim (λ (b : i < a). search (rules, places)) (λ (b : a + k ≤ i). search (rules, places)) o

pub in_part : (a k : ℕ) (xs ys : List ℕ) (i : ℕ) → a + k ≤ length xs → length ys ≡ k → a ≤ i → i < a + k → ((j : ℕ) → j < length ys → get_or ys j 0 ≡ 0)
    → get_or (put_mid a k xs ys) i 0 ≡ 0
in_part a k xs ys i h l lo hi z = search (rules, places)

-- four words, one after another
pub length_four : (p : ℕ) (xs : List ℕ) → length (set (set (set (set xs p 0) (p + 1) 0) (p + 2) 0) (p + 3) 0) ≡ length xs
length_four p xs = search (rules, places)

pub four : (p : ℕ) (xs : List ℕ) (i : ℕ) → p + 4 ≤ length xs → i ≢ p → i ≢ p + 1 → i ≢ p + 2 → i ≢ p + 3
    → get_or (set (set (set (set xs p 0) (p + 1) 0) (p + 2) 0) (p + 3) 0) i 0 ≡ get_or xs i 0
four p xs i h a b c d = get_or-set_other _ (p + 3) i 0 0 d ∙ get_or-set_other _ (p + 2) i 0 0 c ∙ get_or-set_other _ (p + 1) i 0 0 b ∙ get_or-set_other _ p i 0 0 a

pub four_zero : (p : ℕ) (xs : List ℕ) (i : ℕ) → p + 4 ≤ length xs → p ≤ i → i < p + 4 → get_or (set (set (set (set xs p 0) (p + 1) 0) (p + 2) 0) (p + 3) 0) i 0 ≡ 0
four_zero p xs i h lo hi =
    let n₀ = length-set xs p 0 in
    let n₁ = length-set (set xs p 0) (p + 1) 0 in
    let n₂ = length-set (set (set xs p 0) (p + 1) 0) (p + 2) 0 in
    let Z : ℕ → Type 0 = λ k. get_or (set (set (set (set xs p 0) (p + 1) 0) (p + 2) 0) (p + 3) 0) k 0 ≡ 0 in
    ⊎_elim (λ (e : i ≡ p + 3). subst Z (sym e) (get_or-set_same _ (p + 3) 0 0 (omega arith)))
    (λ (d : i ≢ p + 3). ⊎_elim (λ (e : i ≡ p + 2). subst Z (sym e) (get_or-set_other _ (p + 3) (p + 2) 0 0 (λ z. omega arith) ∙ get_or-set_same _ (p + 2) 0 0 (omega arith)))
    (λ (c : i ≢ p + 2). ⊎_elim (λ (e : i ≡ p + 1). subst Z (sym e) (get_or-set_other _ (p + 3) (p + 1) 0 0 (λ z. omega arith) ∙ get_or-set_other _ (p + 2) (p + 1) 0 0 (λ z. omega arith) ∙ get_or-set_same _ (p + 1) 0 0 (omega arith)))
    (λ (b : i ≢ p + 1). let e : p ≡ i = omega arith in
    subst Z e (get_or-set_other _ (p + 3) p 0 0 (λ z. omega arith) ∙ get_or-set_other _ (p + 2) p 0 0 (λ z. omega arith) ∙ get_or-set_other _ (p + 1) p 0 0 (λ z. omega arith) ∙ get_or-set_same xs p 0 0 (omega arith)))
    (cases_eq i (p + 1)))
    (cases_eq i (p + 2)))
    (cases_eq i (p + 3))

pub filled_four : (p k : ℕ) (xs ys : List ℕ) → k ≡ 4 → p + 4 ≤ length xs → length ys ≡ k → ((j : ℕ) → j < length ys → get_or ys j 0 ≡ 0)
    → put_mid p k xs ys ≡ set (set (set (set xs p 0) (p + 1) 0) (p + 2) 0) (p + 3) 0
filled_four p k xs ys e h l z =
    let long : length (put_mid p k xs ys) ≡ length (set (set (set (set xs p 0) (p + 1) 0) (p + 2) 0) (p + 3) 0) = search (rules, places) in
    same_lists _ _ long (λ i d b.
    get_or_default _ i d 0 b ∙ word i ∙ get_or_default _ i 0 d (omega (arith, long, b)))
  where
    word : (i : ℕ) → get_or (put_mid p k xs ys) i 0 ≡ get_or (set (set (set (set xs p 0) (p + 1) 0) (p + 2) 0) (p + 3) 0) i 0
    word i = ⊎_elim
        (λ (b : i < p). out_of_part p k xs ys i (omega arith) l (inl b) ∙ sym (four p xs i h (λ q. omega arith) (λ q. omega arith) (λ q. omega arith) (λ q. omega arith)))
        (λ (b : p ≤ i). ⊎_elim
        (λ (c : i < p + 4). in_part p k xs ys i (omega arith) l b (omega arith) z ∙ sym (four_zero p xs i h b c))
        (λ (c : p + 4 ≤ i). out_of_part p k xs ys i (omega arith) l (inr (omega arith)) ∙ sym (four p xs i h (λ q. omega arith) (λ q. omega arith) (λ q. omega arith) (λ q. omega arith)))
        (cases_lt i (p + 4)))
        (cases_lt i p)

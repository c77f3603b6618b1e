-- How long the token is that begins a part of a line. Assumes nothing.
--   front_some     a token has a byte at least
--   front_within   a token ends within the part
use Rattle.std.proofs.Common.{◌≡◌, ℕ, suc, ◌≤◌, Bool, true, false, cond, eqb, leb, [], ◌∷◌, length, refl, arith}
use Rattle.std.proofs.lemmas.Bool.{and_parts, leb-true}
use Rattle.text.specs.Tokens.{Bytes, Tok, word_byte, run, word, pair, front, not, and, or, opened, closed, other}

run_within : (s : Bytes) → length (run s) ≤ length s
run_within [] = omega arith
run_within (x ∷ s) = go (word_byte x) (run_within s)
  where
    go : (b : Bool) → length (run s) ≤ length s → length (cond b (x ∷ run s) []) ≤ suc (length s)
    go true h = omega arith
    go false h = omega arith

run_one : (x : ℕ) (s : Bytes) (b : Bool) → b ≡ true → 1 ≤ length (cond b (x ∷ run s) [])
run_one x s true e = omega arith
run_one x s false e = let z : ◌≡◌ {A = ℕ} 0 1 = cc in absurd (omega arith)

-- the token by the tests in their order, where a run is the token t of n bytes
abbrev pub chosen : Bool → Bool → Bool → Bool → Bool → Bool → Tok → ℕ → Tok × ℕ
chosen a b c d e w t n = cond a (not, 1) (cond b (opened, 1) (cond c (closed, 1) (cond d (and, 2) (cond e (or, 2) (cond w (t, n) (other, 1))))))

-- what holds of each length that a token can have
long : (P : ℕ → Type 0) (a b c d e w : Bool) (t : Tok) (n : ℕ) → P 1 → (d ≡ true → P 2) → (e ≡ true → P 2) → (w ≡ true → P n) → P (chosen a b c d e w t n).1
long P true b c d e w t n one ands ors many = one
long P false true c d e w t n one ands ors many = one
long P false false true d e w t n one ands ors many = one
long P false false false true e w t n one ands ors many = ands refl
long P false false false false true w t n one ands ors many = ors refl
long P false false false false false true t n one ands ors many = many refl
long P false false false false false false t n one ands ors many = one

pub front_some : (x : ℕ) (s : Bytes) → 1 ≤ (front (x ∷ s)).1
front_some x s =
    long (λ n. 1 ≤ n) (eqb x 33) (eqb x 40) (eqb x 41) (pair (x ∷ s) 38) (pair (x ∷ s) 124) (word_byte x) (word (run (x ∷ s))) (length (run (x ∷ s)))
    (omega arith) (λ e. omega arith) (λ e. omega arith) (run_one x s (word_byte x))

pub front_within : (x : ℕ) (s : Bytes) → (front (x ∷ s)).1 ≤ length (x ∷ s)
front_within x s =
    let both : (b : ℕ) → pair (x ∷ s) b ≡ true → 2 ≤ length (x ∷ s) = λ b e. leb-true 2 (length (x ∷ s)) (and_parts (leb 2 (length (x ∷ s))) _ e).0 in
    long (λ n. n ≤ length (x ∷ s)) (eqb x 33) (eqb x 40) (eqb x 41) (pair (x ∷ s) 38) (pair (x ∷ s) 124) (word_byte x) (word (run (x ∷ s))) (length (run (x ∷ s)))
    (omega arith) (both 38) (both 124) (λ e. run_within (x ∷ s))

-- The tokens do not depend on how many are admitted, if these are as many as the bytes. Assumes nothing.
--   enough           two numbers of tokens that are as large as the bytes are many give the same tokens
--   lexed_length     there are no more tokens than are admitted
--   tokens_length    there are no more tokens than bytes in the line
--   all c at s       the tokens of s, with as many admitted as there are bytes
--   all_begun        they are the one that begins behind the gap, and those behind it
use Rattle.std.proofs.Common.{◌≡◌, ℕ, zero, suc, ◌+◌, ◌<◌, ◌≤◌, Bool, List, [], ◌∷◌, length, drop, sym, refl, ap, ◌∙◌, arith, length-drop}
use Rattle.text.specs.Tokens.{Bytes, Placed, gap, between, front, begun, lexed, tokens_at}
use Rattle.text.proofs.Fronts.{front_some}

begun_same : (f h : ℕ → Bytes → List Placed) (at : ℕ) (r : Bytes) → ((n : ℕ) (q : Bytes) → length q < length r → f n q ≡ h n q) → begun f at r ≡ begun h at r
begun_same f h at [] e = refl
begun_same f h at (x ∷ r) e =
    let n = (front (x ∷ r)).1 in
    let some = front_some x r in
    ap (λ (ps : List Placed). ((front (x ∷ r)).0, at) ∷ ps) (e (at + n) (drop n (x ∷ r)) (omega (arith, length-drop n (x ∷ r))))

nothing : (c : Bool) (k at : ℕ) → lexed c k at [] ≡ []
nothing c zero at = refl
nothing c (suc k) at = refl

pub enough : (c : Bool) (k m at : ℕ) (s : Bytes) → length s ≤ k → length s ≤ m → lexed c k at s ≡ lexed c m at s
enough c k m at [] h l = nothing c k at ∙ sym (nothing c m at)
enough c zero m at (x ∷ s) h l = absurd (omega arith)
enough c (suc k) zero at (x ∷ s) h l = absurd (omega arith)
enough c (suc k) (suc m) at (x ∷ s) h l =
    let g = gap c between (x ∷ s) in
    let d = length-drop g (x ∷ s) in
    begun_same (λ n r. lexed c k n r) (λ n r. lexed c m n r) (at + g) (drop g (x ∷ s))
    (λ n q j. enough c k m n q (omega arith) (omega arith))

begun_length : (f : ℕ → Bytes → List Placed) (k at : ℕ) (r : Bytes) → ((n : ℕ) (q : Bytes) → length (f n q) ≤ k) → length (begun f at r) ≤ suc k
begun_length f k at [] h = omega arith
begun_length f k at (x ∷ r) h = omega (arith, h (at + (front (x ∷ r)).1) (drop (front (x ∷ r)).1 (x ∷ r)))

pub lexed_length : (c : Bool) (k at : ℕ) (s : Bytes) → length (lexed c k at s) ≤ k
lexed_length c zero at s = omega arith
lexed_length c (suc k) at s = begun_length (λ n r. lexed c k n r) k (at + gap c between s) (drop (gap c between s) s) (λ n q. lexed_length c k n q)

pub tokens_length : (c : Bool) (line : Bytes) (from : ℕ) → length (tokens_at c line from) ≤ length line
tokens_length c line from = omega (arith, lexed_length c (length (drop from line)) (suc from) (drop from line), length-drop from line)

abbrev pub all : Bool → ℕ → Bytes → List Placed
all c at s = lexed c (length s) at s

pub all_begun : (c : Bool) (at : ℕ) (s : Bytes) → all c at s ≡ begun (all c) (at + gap c between s) (drop (gap c between s) s)
all_begun c at [] = refl
all_begun c at (x ∷ s) =
    let g = gap c between (x ∷ s) in
    let d = length-drop g (x ∷ s) in
    begun_same (λ n r. lexed c (length s) n r) (all c) (at + g) (drop g (x ∷ s))
    (λ n q j. enough c (length s) (length q) n q (omega arith) (omega arith))

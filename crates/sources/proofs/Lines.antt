-- The first line of a text, with its line feed.
use Rattle.std.proofs.Common.{◌≡◌, ℕ, zero, suc, ◌-◌, ◌<◌, ◌≤◌, Bool, true, false, cond, eqb, List, [], ◌∷◌, ◌++◌, length, take, sym, refl, ap, ◌∙◌, ◌+◌, add-one, ne_eqb, arith, length-append, take_all, eqb-true}
use lib.Seq.{take-append-le}
use Rattle.text.specs.Tokens.{Bytes}
use Rattle.lines.specs.Lines.{until_feed, past_feed}
use Rattle.scanning.specs.Modes.{open_after}
use Rattle.sources.specs.Lines.{nil, onto, lines}
use Rattle.sources.specs.Places.{placed}

abbrev with_feed : Bytes → Bytes
with_feed [] = []
with_feed (x ∷ r) = cond (eqb x 10) (x ∷ []) (x ∷ with_feed r)

whole_by : (b : Bool) (x : ℕ) (r : Bytes) → r ≡ with_feed r ++ past_feed r → x ∷ r ≡ cond b (x ∷ []) (x ∷ with_feed r) ++ cond b r (past_feed r)
whole_by true x r ih = refl
whole_by false x r ih = ap (λ (s : Bytes). x ∷ s) ih

whole_first : (s : Bytes) → s ≡ with_feed s ++ past_feed s
whole_first [] = refl
whole_first (x ∷ r) = whole_by (eqb x 10) x r (whole_first r)

until_by : (b : Bool) (x : ℕ) (r : Bytes) → eqb x 10 ≡ b → until_feed (with_feed r) ≡ until_feed r → until_feed (cond b (x ∷ []) (x ∷ with_feed r)) ≡ cond b [] (x ∷ until_feed r)
until_by true x r e ih = ap (λ (t : Bool). cond t [] (x ∷ [])) e
until_by false x r e ih = ap (λ (t : Bool). cond t [] (x ∷ until_feed (with_feed r))) e ∙ ap (λ (s : Bytes). x ∷ s) ih

until_first : (s : Bytes) → until_feed (with_feed s) ≡ until_feed s
until_first [] = refl
until_first (x ∷ r) = until_by (eqb x 10) x r refl (until_first r)

last_by : (b : Bool) (x : ℕ) → cond b ((x ∷ []) ∷ []) ((x ∷ []) ∷ []) ≡ cond b (x ∷ []) (x ∷ []) ∷ lines (cond b [] [])
last_by true x = refl
last_by false x = refl

more_by : (b : Bool) (x : ℕ) (r : Bytes) → lines r ≡ with_feed r ∷ lines (past_feed r)
    → cond b ((x ∷ []) ∷ lines r) (onto x (lines r)) ≡ cond b (x ∷ []) (x ∷ with_feed r) ∷ lines (cond b r (past_feed r))
more_by true x r ih = refl
more_by false x r ih = ap (onto x) ih

lines_first : (s : Bytes) → 0 < length s → lines s ≡ with_feed s ∷ lines (past_feed s)
lines_first [] h = absurd (omega arith)
lines_first (x ∷ []) h = last_by (eqb x 10) x
lines_first (x ∷ y ∷ ys) h = more_by (eqb x 10) x (y ∷ ys) (lines_first (y ∷ ys) (omega arith))

-- The text s, what stands behind its first line, and the bytes before that.
module _ (s behind : Bytes) (n : ℕ) (is : behind ≡ past_feed s) (before : n ≡ length s - length behind) where
  front_is : take n s ≡ with_feed s
  front_is =
      let k : n ≡ length (with_feed s) = omega (arith, ap length is, ap length (whole_first s), length-append (with_feed s) (past_feed s)) in
      ap (λ (m : ℕ). take m s) k ∙ ap (λ (z : Bytes). take (length (with_feed s)) z) (whole_first s)
      ∙ take-append-le (length (with_feed s)) (with_feed s) (past_feed s) (omega arith) ∙ take_all (length (with_feed s)) (with_feed s) (omega arith)

  pub cut_first : 0 < length s → lines s ≡ take n s ∷ lines behind
  cut_first h = lines_first s h ∙ (λ i. sym front_is i ∷ lines (sym is i))

  pub cut_whole : s ≡ take n s ++ behind
  cut_whole = whole_first s ∙ (λ i. sym front_is i ++ sym is i)

  pub cut_content : until_feed (take n s) ≡ until_feed s
  cut_content = ap until_feed front_is ∙ until_first s

pub behind_within : (s behind : Bytes) → behind ≡ past_feed s → length behind ≤ length s
behind_within s behind is = omega (arith, ap length is, ap length (whole_first s), length-append (with_feed s) (past_feed s))

-- a line has a byte
onto_few : (x : ℕ) (ls : List Bytes) → length (onto x ls) ≤ suc (length ls)
onto_few x [] = omega arith
onto_few x (l ∷ ls) = omega arith

few_by : (b : Bool) (x : ℕ) (r : Bytes) → length (lines r) ≤ length r → length (cond b ((x ∷ []) ∷ lines r) (onto x (lines r))) ≤ suc (length r)
few_by true x r ih = omega arith
few_by false x r ih = omega (arith, onto_few x (lines r))

pub lines_few : (s : Bytes) → length (lines s) ≤ length s
lines_few [] = omega arith
lines_few (x ∷ r) = few_by (eqb x 10) x r (lines_few r)

-- whether something is left
pub not_empty : (n : ℕ) → false ≡ eqb n 0 → 0 < n
not_empty zero e = let z : ◌≡◌ {A = ℕ} 0 1 = cc in absurd (omega arith)
not_empty (suc n) e = omega arith

pub none_left : (s : Bytes) → true ≡ eqb (length s) 0 → length (lines s) ≡ 0
none_left s e = omega (arith, lines_few s, eqb-true (length s) 0 (sym e))

-- a text with a byte has a line
nil_onto : (x : ℕ) (ls : List Bytes) → nil (onto x ls) ≡ false
nil_onto x [] = refl
nil_onto x (l ∷ ls) = refl

nil_by : (b : Bool) (x : ℕ) (r : Bytes) → nil (cond b ((x ∷ []) ∷ lines r) (onto x (lines r))) ≡ false
nil_by true x r = refl
nil_by false x r = nil_onto x (lines r)

pub nil_lines : (s : Bytes) → eqb (length s) 0 ≡ nil (lines s)
nil_lines [] = refl
nil_lines (x ∷ r) = ne_eqb (suc (length r)) 0 (omega arith) ∙ sym (nil_by (eqb x 10) x r)

-- the first of the lines with its place
pub placed_more : (c : Bool) (n : ℕ) (ls ls' : List Bytes) (l : Bytes) (b d : Bool) → ls ≡ l ∷ ls' → b ≡ nil ls' → d ≡ open_after c l
    → placed c n ls ≡ record { text = l; number = n; in_comment = c; last = b } ∷ placed d (n + 1) ls'
placed_more c n ls ls' l b d e q k = rw (e, q, k, add-one) refl

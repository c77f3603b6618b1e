-- Blanks and comments in front, as slice patterns part them. Assumes nothing.
--   tail n s         what is left of s behind n bytes, as a pattern has it
--   not_both         two bytes are not both as told
--   inside_is        the gap inside a block comment is up to its end, and then between
--   gap_comment      a block comment in front of a gap
--   gap_zero         nothing of a gap stands in front
use Rattle.std.proofs.Common.{◌≡◌, ℕ, suc, ◌+◌, ◌-◌, ◌≤◌, Bool, true, false, cond, ◌&&◌, eqb, ◌⊎◌, [], ◌∷◌, length, get_or, take, drop, sym, refl, ap, ◌∙◌, inl, inr, arith}
use Rattle.std.proofs.lemmas.List.{drop-drop, take_rest}
use Rattle.std.proofs.lemmas.Bool.{ne_eqb, eqb-true, cases_eq, and_left, and_right}
use Rattle.text.specs.Classes.{blank}
use Rattle.text.specs.Tokens.{Bytes, gap, between, stroke, inside, closing}
use Rattle.text.specs.Pulling.{in_comment}

abbrev pub tail : ℕ → Bytes → Bytes
tail n s = take (length s - n) (drop n s)

pub not_both : (x y a b : ℕ) → (x ≡ a → y ≡ b → ⊥) → (eqb x a && eqb y b) ≡ false
not_both x y a b h = go (cases_eq x a)
  where
    go : (x ≡ a) ⊎ (x ≡ a → ⊥) → (eqb x a && eqb y b) ≡ false
    go (inl e) = and_right (eqb x a) (eqb y b) (ne_eqb y b (h e))
    go (inr n) = and_left (eqb x a) (eqb y b) (ne_eqb x a n)

inside_split : (c : Bool) (x : ℕ) (s : Bytes) (star : Bool) → gap c inside s ≡ in_comment s + gap c between (drop (in_comment s) s)
    → suc (cond star (gap c closing s) (gap c inside s)) ≡ (cond (star && eqb (get_or s 0 0) 47) 2 (suc (in_comment s))) + gap c between (drop (cond (star && eqb (get_or s 0 0) 47) 2 (suc (in_comment s))) (x ∷ s))
inside_split c x s false e = omega arith
inside_split c x [] true e = refl
inside_split c x (y ∷ s) true e = go (eqb y 47)
  where
    go : (b : Bool) → suc (suc (cond b (gap c between s) (cond (eqb y 42) (gap c closing s) (gap c inside s)))) ≡ cond b 2 (suc (in_comment (y ∷ s))) + gap c between (drop (cond b 2 (suc (in_comment (y ∷ s)))) (x ∷ y ∷ s))
    go true = omega arith
    go false = omega arith

pub inside_is : (c : Bool) (s : Bytes) → gap c inside s ≡ in_comment s + gap c between (drop (in_comment s) s)
inside_is c [] = refl
inside_is c (x ∷ s) = inside_split c x s (eqb x 42) (inside_is c s)

-- a block comment: what is left behind it has the same gap left
pub gap_comment : (c : Bool) (s t : Bytes) → c ≡ true → 2 ≤ length s → get_or s 0 0 ≡ 47 → get_or s 1 0 ≡ 42 → t ≡ drop (in_comment (tail 2 s)) (tail 2 s)
    → drop (gap c between t) t ≡ drop (gap c between s) s
gap_comment c [] t k h a b e = absurd (omega arith)
gap_comment c (x ∷ []) t k h a b e = absurd (omega arith)
gap_comment c (x ∷ y ∷ s) t k h a b e =
    let n = in_comment s in
    let f : t ≡ drop n s = e ∙ ap (λ (z : Bytes). drop (in_comment z) z) (take_rest (x ∷ y ∷ s) 2) in
    let g : gap c between (x ∷ y ∷ s) ≡ suc (suc (gap c inside s)) = (λ i. gap (k i) between (a i ∷ b i ∷ s)) ∙ ap (λ (q : Bool). suc (suc (gap q inside s))) (sym k) in
    ap (λ (z : Bytes). drop (gap c between z) z) f ∙ drop-drop (gap c between (drop n s)) n s
    ∙ ap (λ (m : ℕ). drop m s) (sym (inside_is c s)) ∙ ap (λ (m : ℕ). drop m (x ∷ y ∷ s)) (sym g)

stroke_none : (c : Bool) (s : Bytes) → (get_or s 0 0 ≡ 42 → ⊥) → (get_or s 0 0 ≡ 47 → ⊥) → gap c stroke s ≡ 0
stroke_none c [] m n = refl
stroke_none c (x ∷ s) m n = λ i. cond (ne_eqb x 42 m i) (suc (suc (gap c inside s))) (cond (ne_eqb x 47 n i) (suc (suc (length s))) 0)

slash_none : (c : Bool) (x : ℕ) (s : Bytes) (b : Bool) → eqb x 47 ≡ b → (c ≡ true → x ≡ 47 → get_or s 0 0 ≡ 42 → ⊥) → (c ≡ true → x ≡ 47 → get_or s 0 0 ≡ 47 → ⊥) → cond (c && b) (gap c stroke s) 0 ≡ 0
slash_none false x s b e m n = refl
slash_none true x s false e m n = refl
slash_none true x s true e m n = stroke_none true s (m refl (eqb-true x 47 e)) (n refl (eqb-true x 47 e))

pub gap_zero : (c : Bool) (s : Bytes) → (1 ≤ length s → blank (get_or s 0 0) ≡ false) → (c ≡ true → get_or s 0 0 ≡ 47 → get_or s 1 0 ≡ 42 → ⊥) → (c ≡ true → get_or s 0 0 ≡ 47 → get_or s 1 0 ≡ 47 → ⊥) → gap c between s ≡ 0
gap_zero c [] b m n = refl
gap_zero c (x ∷ s) b m n =
    ap (λ (t : Bool). cond t (suc (gap c between s)) (cond (c && eqb x 47) (gap c stroke s) 0)) (b (omega arith)) ∙ slash_none c x s (eqb x 47) refl m n

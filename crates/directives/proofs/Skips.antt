-- What `skip` leaves stands behind blanks and block comments, and only that does. Assumes nothing.
--   tail n s         what is left of s behind n bytes, as a pattern has it
--   blanks_skip      a gap of the rules is skipped
--   solid_skip       where neither a blank nor a comment begins, nothing is skipped
--   skipped, skipped_is      what `skip` leaves is left by the rule, and the rule leaves nothing else
--   fronted, fronted_is      the same of `front`
--   skip_comment, skip_none    what a pattern in front tells of `skip` and `front`
use Rattle.std.proofs.Common.{◌≡◌, ℕ, suc, ◌-◌, ◌<◌, ◌≤◌, Bool, true, false, cond, not, ◌&&◌, ◌||◌, eqb, ◌⊎◌, [], ◌∷◌, ◌++◌, length, get_or, take, drop, sym, refl, ap, ◌∙◌, subst, ap₂, inl, inr, arith, length-drop}
use Rattle.std.proofs.lemmas.List.{append_assoc, append-nil, take_rest}
use Rattle.std.proofs.lemmas.Bool.{false≢true, eqb-true, ne_eqb, cases_eq, and_parts, and_right, not-true}
use Rattle.text.specs.Pulling.{in_comment}
use Rattle.directives.specs.Gaps.{Bytes, blank, between, stroke, inside, closing, skip, front, begins, no_end, Blanks, no_more, a_blank, a_comment, solid, Skipped, behind, swallowed, Fronted, in_code, ended, unended}

abbrev pub tail : ℕ → Bytes → Bytes
tail n s = take (length s - n) (drop n s)

module _ (T v : Bytes) (stops : skip closing T ≡ v) (starts : skip inside T ≡ v) where
  -- one byte in a comment
  on : (x : ℕ) (c : Bytes) → no_end (x ∷ c) ≡ true → (no_end c ≡ true → skip inside (c ++ T) ≡ v)
      → (begins 47 c ≡ false → no_end c ≡ true → skip closing (c ++ T) ≡ v) → cond (eqb x 42) (skip closing (c ++ T)) (skip inside (c ++ T)) ≡ v
  on x c f k s = go (eqb x 42) f
    where
      go : (b : Bool) → (not (b && begins 47 c) && no_end c) ≡ true → cond b (skip closing (c ++ T)) (skip inside (c ++ T)) ≡ v
      go true f = let p = and_parts (not (begins 47 c)) (no_end c) f in s (not-true (begins 47 c) p.0) p.1
      go false f = k f

  mutual
    in_inside : (c : Bytes) → no_end c ≡ true → skip inside (c ++ T) ≡ v
    in_inside [] f = starts
    in_inside (x ∷ c) f = on x c f (in_inside c) (in_closing c)

    in_closing : (c : Bytes) → begins 47 c ≡ false → no_end c ≡ true → skip closing (c ++ T) ≡ v
    in_closing [] n f = stops
    in_closing (x ∷ c) n f =
        ap (λ (b : Bool). cond b (skip between (c ++ T)) (cond (eqb x 42) (skip closing (c ++ T)) (skip inside (c ++ T)))) n
        ∙ on x c f (in_inside c) (in_closing c)

-- From the rules to `skip`.
slash_skip : (r : Bytes) → begins 42 r ≡ false → skip stroke r ≡ 47 ∷ r
slash_skip [] n = refl
slash_skip (y ∷ r) n = ap (λ (b : Bool). cond b (skip inside r) (47 ∷ y ∷ r)) n

pub solid_skip : (s : Bytes) → solid s ≡ true → skip between s ≡ s
solid_skip [] h = refl
solid_skip (x ∷ r) h = go (blank x) (eqb x 47) refl h
  where
    go : (a b : Bool) → eqb x 47 ≡ b → not (a || (b && begins 42 r)) ≡ true → cond a (skip between r) (cond b (skip stroke r) (x ∷ r)) ≡ x ∷ r
    go true b q h = absurd (false≢true h)
    go false true q h = slash_skip r (not-true (begins 42 r) h) ∙ ap (λ (x : ℕ). x ∷ r) (sym (eqb-true x 47 q))
    go false false q h = refl

pub blanks_skip : {g : Bytes} → Blanks g → (s : Bytes) → skip between (g ++ s) ≡ skip between s
blanks_skip no_more s = refl
blanks_skip (a_blank {x = x} {r = r} e k) s =
    ap (λ (b : Bool). cond b (skip between (r ++ s)) (cond (eqb x 47) (skip stroke (r ++ s)) (x ∷ r ++ s))) e ∙ blanks_skip k s
blanks_skip (a_comment c r f k) s =
    ap (skip inside) (append_assoc c (42 ∷ 47 ∷ r) s)
    ∙ in_inside (42 ∷ 47 ∷ (r ++ s)) (skip between (r ++ s)) refl refl c f ∙ blanks_skip k s

open_skip : (b : Bytes) → no_end b ≡ true → skip inside b ≡ []
open_skip b f = ap (skip inside) (sym (append-nil b)) ∙ in_inside [] [] refl refl b f

pub skipped_is : {l s : Bytes} → Skipped l s → skip between l ≡ s
skipped_is (behind g s k h) = blanks_skip k s ∙ solid_skip s h
skipped_is (swallowed g b k f) = blanks_skip k (47 ∷ 42 ∷ b) ∙ open_skip b f

pub fronted_is : {c : Bool} {l s : Bytes} → Fronted c l s → front c l ≡ s
fronted_is (in_code k) = skipped_is k
fronted_is (ended b r {s = s} f k) = in_inside (42 ∷ 47 ∷ r) s (skipped_is k) (skipped_is k) b f
fronted_is (unended {b = b} f) = open_skip b f

-- From `skip` to the rules. What follows the opening of a comment:
data Comment : Bytes → Bytes → Type 0 where
  shut : (c r : Bytes) {s : Bytes} → no_end c ≡ true → Skipped r s → Comment (c ++ 42 ∷ 47 ∷ r) s
  left : {c : Bytes} → no_end c ≡ true → Comment c []

prefix : (x : ℕ) {l s : Bytes} → (eqb x 42 && begins 47 l) ≡ false → Comment l s → Comment (x ∷ l) s
prefix x n (shut c r f k) = shut (x ∷ c) r (first c n f) k
  where
    first : (c : Bytes) → (eqb x 42 && begins 47 (c ++ 42 ∷ 47 ∷ r)) ≡ false → no_end c ≡ true → no_end (x ∷ c) ≡ true
    first [] n f = none (eqb x 42)
      where
        none : (b : Bool) → (not (b && false) && true) ≡ true
        none true = refl
        none false = refl
    first (y ∷ c) n f = ap₂ (λ (a b : Bool). not a && b) n f
prefix x n (left f) = left (ap₂ (λ (a b : Bool). not a && b) n f)

blank_on : (x : ℕ) {l s : Bytes} → blank x ≡ true → Skipped l s → Skipped (x ∷ l) s
blank_on x e (behind g s k h) = behind (x ∷ g) s (a_blank e k) h
blank_on x e (swallowed g c k f) = swallowed (x ∷ g) c (a_blank e k) f

comment_on : {l s : Bytes} → Comment l s → Skipped (47 ∷ 42 ∷ l) s
comment_on (left {c = c} f) = swallowed [] c no_more f
comment_on (shut c r f k) = go c f k
  where
    go : (c : Bytes) → no_end c ≡ true → {r s : Bytes} → Skipped r s → Skipped (47 ∷ 42 ∷ (c ++ 42 ∷ 47 ∷ r)) s
    go c f (behind g s k h) =
        subst (λ (z : Bytes). Skipped (47 ∷ 42 ∷ z) s) (append_assoc c (42 ∷ 47 ∷ g) s) (behind (47 ∷ 42 ∷ (c ++ 42 ∷ 47 ∷ g)) s (a_comment c g f k) h)
    go c f (swallowed g d k e) =
        subst (λ (z : Bytes). Skipped (47 ∷ 42 ∷ z) []) (append_assoc c (42 ∷ 47 ∷ g) (47 ∷ 42 ∷ d)) (swallowed (47 ∷ 42 ∷ (c ++ 42 ∷ 47 ∷ g)) d (a_comment c g f k) e)

within_comment : (x : ℕ) (r : Bytes) → Comment r (skip inside r) → Comment (42 ∷ r) (skip closing r) → Comment (x ∷ r) (cond (eqb x 42) (skip closing r) (skip inside r))
within_comment x r i c = go (eqb x 42) refl
  where
    go : (b : Bool) → eqb x 42 ≡ b → Comment (x ∷ r) (cond b (skip closing r) (skip inside r))
    go true p = subst (λ (x : ℕ). Comment (x ∷ r) (skip closing r)) (sym (eqb-true x 42 p)) c
    go false p = prefix x (ap (λ (b : Bool). b && begins 47 r) p) i

-- a byte at which skipping stops
stop : (x : ℕ) (r : Bytes) → blank x ≡ false → eqb x 47 ≡ false → Skipped (x ∷ r) (x ∷ r)
stop x r p q = behind [] (x ∷ r) no_more (ap₂ (λ (a b : Bool). not (a || (b && begins 42 r))) p q)

mutual
  pub skipped : (l : Bytes) → Skipped l (skip between l)
  skipped [] = behind [] [] no_more refl
  skipped (x ∷ r) = go (blank x) (eqb x 47) refl refl (skipped r) (stroke_of r)
    where
      go : (a b : Bool) → blank x ≡ a → eqb x 47 ≡ b → Skipped r (skip between r) → Skipped (47 ∷ r) (skip stroke r)
          → Skipped (x ∷ r) (cond a (skip between r) (cond b (skip stroke r) (x ∷ r)))
      go true b p q k s = blank_on x p k
      go false true p q k s = subst (λ (x : ℕ). Skipped (x ∷ r) (skip stroke r)) (sym (eqb-true x 47 q)) s
      go false false p q k s = stop x r p q

  stroke_of : (l : Bytes) → Skipped (47 ∷ l) (skip stroke l)
  stroke_of [] = behind [] (47 ∷ []) no_more refl
  stroke_of (x ∷ r) = go (eqb x 42) refl (inside_of r)
    where
      go : (b : Bool) → eqb x 42 ≡ b → Comment r (skip inside r) → Skipped (47 ∷ x ∷ r) (cond b (skip inside r) (47 ∷ x ∷ r))
      go true p k = subst (λ (x : ℕ). Skipped (47 ∷ x ∷ r) (skip inside r)) (sym (eqb-true x 42 p)) (comment_on k)
      go false p k = behind [] (47 ∷ x ∷ r) no_more (ap not p)

  inside_of : (l : Bytes) → Comment l (skip inside l)
  inside_of [] = left refl
  inside_of (x ∷ r) = within_comment x r (inside_of r) (closing_of r)

  closing_of : (l : Bytes) → Comment (42 ∷ l) (skip closing l)
  closing_of [] = left refl
  closing_of (x ∷ r) = go (eqb x 47) refl (skipped r) (within_comment x r (inside_of r) (closing_of r))
    where
      go : (b : Bool) → eqb x 47 ≡ b → Skipped r (skip between r) → Comment (x ∷ r) (cond (eqb x 42) (skip closing r) (skip inside r))
          → Comment (42 ∷ x ∷ r) (cond b (skip between r) (cond (eqb x 42) (skip closing r) (skip inside r)))
      go true p k c = subst (λ (x : ℕ). Comment (42 ∷ x ∷ r) (skip between r)) (sym (eqb-true x 47 p)) (shut [] r refl k)
      go false p k c = prefix 42 p c

pub fronted : (c : Bool) (l : Bytes) → Fronted c l (front c l)
fronted false l = in_code (skipped l)
fronted true l = go (inside_of l)
  where
    go : {l s : Bytes} → Comment l s → Fronted true l s
    go (shut b r f k) = ended b r f k
    go (left f) = unended f

-- What a pattern in front tells.
inside_split : (x : ℕ) (s : Bytes) (star : Bool) → skip inside s ≡ skip between (drop (in_comment s) s)
    → cond star (skip closing s) (skip inside s) ≡ skip between (drop (cond (star && eqb (get_or s 0 0) 47) 2 (suc (in_comment s))) (x ∷ s))
inside_split x s false e = e
inside_split x [] true e = refl
inside_split x (y ∷ s) true e = go (eqb y 47)
  where
    go : (b : Bool) → cond b (skip between s) (cond (eqb y 42) (skip closing s) (skip inside s)) ≡ skip between (drop (cond b 2 (suc (in_comment (y ∷ s)))) (x ∷ y ∷ s))
    go true = refl
    go false = e

pub inside_is : (s : Bytes) → skip inside s ≡ skip between (drop (in_comment s) s)
inside_is [] = refl
inside_is (x ∷ s) = inside_split x s (eqb x 42) (inside_is s)

-- a block comment: behind it the same is left to skip, and it is shorter
pub skip_comment : (s t : Bytes) → 2 ≤ length s → get_or s 0 0 ≡ 47 → get_or s 1 0 ≡ 42 → t ≡ drop (in_comment (tail 2 s)) (tail 2 s)
    → (skip between t ≡ skip between s) × (length t < length s)
skip_comment [] t h a b e = absurd (omega arith)
skip_comment (x ∷ []) t h a b e = absurd (omega arith)
skip_comment (x ∷ y ∷ s) t h a b e =
    let f : t ≡ drop (in_comment s) s = e ∙ ap (λ (z : Bytes). drop (in_comment z) z) (take_rest (x ∷ y ∷ s) 2) in
    (ap (skip between) f ∙ sym (inside_is s) ∙ (λ i. skip between (sym a i ∷ sym b i ∷ s)), omega (arith, ap length f, length-drop (in_comment s) s))

not_begins : (b : ℕ) (s : Bytes) → (get_or s 0 0 ≡ b → ⊥) → begins b s ≡ false
not_begins b [] n = refl
not_begins b (x ∷ s) n = ne_eqb x b n

pub skip_none : (s : Bytes) → (1 ≤ length s → blank (get_or s 0 0) ≡ false) → (get_or s 0 0 ≡ 47 → get_or s 1 0 ≡ 42 → ⊥) → s ≡ skip between s
skip_none [] b n = refl
skip_none (x ∷ s) b n = go (cases_eq x 47)
  where
    go : (x ≡ 47) ⊎ (x ≡ 47 → ⊥) → x ∷ s ≡ cond (blank x) (skip between s) (cond (eqb x 47) (skip stroke s) (x ∷ s))
    go (inl e) =
        let m = and_right (eqb x 47) (begins 42 s) (not_begins 42 s (n e)) in
        sym (solid_skip (x ∷ s) (ap₂ (λ (p q : Bool). not (p || q)) (b (omega arith)) m))
    go (inr m) = sym (ap₂ (λ (p q : Bool). cond p (skip between s) (cond q (skip stroke s) (x ∷ s))) (b (omega arith)) (ne_eqb x 47 m))

-- what a look that stopped at t has left: it is what `skip` leaves, by the rule, and the rule leaves nothing else
pub record Left (l t : Bytes) : Type 0 where
  pub value : t ≡ skip between l
  pub law : Skipped l t
  pub only : (s : Bytes) → Skipped l s → s ≡ t

pub stopped : (l t : Bytes) → skip between t ≡ skip between l → (1 ≤ length t → blank (get_or t 0 0) ≡ false) → (get_or t 0 0 ≡ 47 → get_or t 1 0 ≡ 42 → ⊥) → Left l t
stopped l t e b n =
    let v : t ≡ skip between l = skip_none t b n ∙ e in
    record { value = v; law = subst (λ (s : Bytes). Skipped l s) (sym v) (skipped l); only = λ s k. sym (skipped_is k) ∙ sym v }

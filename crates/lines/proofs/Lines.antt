-- One line after the other.
use Rattle.std.proofs.Common.{not, Some, None, ◌≡◌, ℕ, zero, suc, ◌+◌, ◌<◌, ◌≤◌, Bool, true, false, cond, eqb, List, [], ◌∷◌, ◌++◌, length, get_or, take, drop, sym, refl, ap, ◌∙◌, subst, inl, inr, ⊎_elim, arith, take_all, eq-eqb, eqb-true}
use Rattle.std.proofs.lemmas.List.{drop_all}
use Rattle.std.proofs.Math.Numerals.{one-add}
use Rattle.std.specs.List.{position, position_or_len}
use Rattle.std.proofs.lemmas.Bool.Decides.{nat_tests}
use Rattle.lines.specs.Lines.{until_feed, past_feed, onto, lines_of, Divided, FirstLine}

more_by : (b : Bool) (x y : ℕ) (ys : List ℕ) → FirstLine (y ∷ ys)
    → cond b (record { content = []; behind = y ∷ ys } ∷ lines_of (y ∷ ys)) (onto x (lines_of (y ∷ ys)))
    ≡ record { content = cond b [] (x ∷ until_feed (y ∷ ys)); behind = cond b (y ∷ ys) (past_feed (y ∷ ys)) } ∷ lines_of (cond b (y ∷ ys) (past_feed (y ∷ ys)))
more_by true x y ys ih = refl
more_by false x y ys ih = ap (onto x) ih

last_by : (b : Bool) (x : ℕ)
    → cond b (record { content = []; behind = [] } ∷ []) (record { content = x ∷ []; behind = [] } ∷ []) ≡ record { content = cond b [] (x ∷ []); behind = cond {A = List ℕ} b [] [] } ∷ lines_of (cond b [] [])
last_by true x = refl
last_by false x = refl

pub first_line_is : (s : List ℕ) → 0 < length s → FirstLine s
first_line_is [] h = absurd (omega arith)
first_line_is (x ∷ []) h = last_by (eqb x 10) x
first_line_is (x ∷ y ∷ ys) h = more_by (eqb x 10) x y ys (first_line_is (y ∷ ys) (omega arith))

shorter_by : (b : Bool) (r t : List ℕ) → length t ≤ length r → length (cond b r t) ≤ length r
shorter_by true r t h = omega arith
shorter_by false r t h = h

-- what stands behind a line is shorter
pub past_shorter : (s : List ℕ) → length (past_feed s) ≤ length s
past_shorter [] = omega arith
past_shorter (x ∷ r) = let h = shorter_by (eqb x 10) r (past_feed r) (past_shorter r) in omega arith

pub past_less : (s : List ℕ) → 0 < length s → length (past_feed s) < length s
past_less [] h = absurd (omega arith)
past_less (x ∷ r) h = let g = shorter_by (eqb x 10) r (past_feed r) (past_shorter r) in omega arith

-- the first line feed's place
abbrev pub feed : ℕ → Bool
feed x = eqb x 10

until_is : (s : List ℕ) → take (position_or_len feed s) s ≡ until_feed s
until_is [] = refl
until_is (x ∷ r) = go (feed x) (until_is r)
  where
    go : (b : Bool) → take (position_or_len feed r) r ≡ until_feed r → take (cond (not b) (1 + position_or_len feed r) 0) (x ∷ r) ≡ cond b [] (x ∷ until_feed r)
    go true e = refl
    go false e = rw one-add (ap (λ (t : List ℕ). x ∷ t) e)

past_is : (s : List ℕ) → drop (position_or_len feed s + 1) s ≡ past_feed s
past_is [] = refl
past_is (x ∷ r) = go (feed x) (past_is r)
  where
    go : (b : Bool) → drop (position_or_len feed r + 1) r ≡ past_feed r → drop (cond (not b) (1 + position_or_len feed r) 0 + 1) (x ∷ r) ≡ cond b r (past_feed r)
    go true e = refl
    go false e = ap (λ (n : ℕ). drop n (x ∷ r)) (let z : 1 + position_or_len feed r + 1 ≡ suc (position_or_len feed r + 1) = omega arith in z) ∙ e

some_is : (b : Bool) (n i : ℕ) → Some i ≡ cond b (Some n) None → i ≡ n
some_is true n i e = cc
some_is false n i e = cc

none_is : (b : Bool) (n : ℕ) → None ≡ cond b (Some n) None → b ≡ false
none_is true n e = cc
none_is false n e = refl

pub at_feed : (s : List ℕ) (i : ℕ) → Some i ≡ position feed s → (take i s ≡ until_feed s) × (drop (i + 1) s ≡ past_feed s)
at_feed s i e =
    let n = some_is _ _ _ e in
    (ap (λ (m : ℕ). take m s) n ∙ until_is s, ap (λ (m : ℕ). drop (m + 1) s) n ∙ past_is s)

pub no_feed : (s : List ℕ) → None ≡ position feed s → (s ≡ until_feed s) × ([] ≡ past_feed s)
no_feed s e =
    let l = none_is _ _ e in
    let n : length s ≤ position_or_len feed s = grind (arith, nat_tests) in
    (sym (take_all (position_or_len feed s) s n) ∙ until_is s, sym (drop_all (position_or_len feed s + 1) s (omega arith)) ∙ past_is s)

divided_by : (b : Bool) (x : ℕ) (r : List ℕ) → eqb x 10 ≡ b → Divided r (until_feed r) (past_feed r) → Divided (x ∷ r) (cond b [] (x ∷ until_feed r)) (cond b r (past_feed r))
divided_by true x r e d = (λ k h. absurd (omega arith), inr (ap (λ (y : ℕ). y ∷ r) (eqb-true x 10 e)))
divided_by false x r e d = (
  λ k h q. feedless k h q,
  ⊎_elim
      (λ (p : (r ≡ until_feed r) × (past_feed r ≡ [])). inl (ap (λ (l : List ℕ). x ∷ l) p.0, p.1))
      (λ (p : r ≡ until_feed r ++ 10 ∷ past_feed r). inr (ap (λ (l : List ℕ). x ∷ l) p))
      d.1,
)
  where
    feedless : (k : ℕ) → k < length (x ∷ until_feed r) → get_or (x ∷ until_feed r) k 0 ≡ 10 → ⊥
    feedless zero h q = let z : true ≡ false = sym (eq-eqb x 10 q) ∙ e in let w : ◌≡◌ {A = ℕ} 0 1 = cc in omega arith
    feedless (suc k) h q = d.0 k (omega arith) q

-- a text is divided by its first line feed
pub divided : (s : List ℕ) → Divided s (until_feed s) (past_feed s)
divided [] = (λ k h. absurd (omega arith), inl (refl, refl))
divided (x ∷ r) = divided_by (eqb x 10) x r refl (divided r)

pub divided_at : (s line behind : List ℕ) → line ≡ until_feed s → behind ≡ past_feed s → Divided s line behind
divided_at s line behind e f =
    subst (λ (l : List ℕ). Divided s l behind) (sym e) (subst (λ (b : List ℕ). Divided s (until_feed s) b) (sym f) (divided s))

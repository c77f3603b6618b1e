-- The tokens of a line are read by the rules, and the rules read no others. Assumes nothing.
--   in-comment-..    how long a block comment is whose end the rules have, or lack
--   gap_ends, gap_begins   how long a gap of the rules is, at the line's end or before a token
--   Parted c s       s is a gap of the rules, and behind it an end or a token
--   all_ends, all_token   the tokens behind such a gap
--   reads            the tokens of s are read by the rules
--   only             what the rules read are the tokens of s
use Rattle.std.proofs.Common.{◌≡◌, ℕ, zero, suc, ◌+◌, ◌<◌, ◌≤◌, Bool, true, false, cond, ◌&&◌, eqb, ◌⊎◌, List, [], ◌∷◌, ◌++◌, length, get_or, drop, sym, refl, ap, ◌∙◌, subst, inl, inr, arith, length-append}
use Rattle.std.proofs.lemmas.List.{drop_all, drop_at, append_assoc}
use Rattle.std.proofs.lemmas.Bool.{cases_eq}
use Rattle.text.specs.Classes.{blank}
use Rattle.text.specs.Tokens.{Bytes, Tok, Placed, gap, between, stroke, inside, front, begun}
use Rattle.text.specs.Pulling.{in_comment}
use Rattle.text.specs.Reading.{NoEnd, Gaps, no_gap, a_blank, a_comment, Ending, at_end, line_comment, open_comment, Spells, Reads, no_more, a_token}
use Rattle.text.proofs.Gaps.{not_both, inside_is, gap_zero}
use Rattle.text.proofs.Fuel.{all, all_begun}
use Rattle.text.proofs.Spelling.{Solid, Begins, solid, begins, front_spelt, spelt, spelt_some}

no_end_nil : NoEnd []
no_end_nil [] v e = let z : ◌≡◌ {A = ℕ} 0 1 = cc in omega arith
no_end_nil (y ∷ u) v e = let z : ◌≡◌ {A = ℕ} 0 1 = cc in omega arith

no_end_more : (x : ℕ) (b : Bytes) → (x ≡ 42 → get_or b 0 0 ≡ 47 → ⊥) → NoEnd b → NoEnd (x ∷ b)
no_end_more x b n h [] v e = n (cc) (ap (λ (s : Bytes). get_or s 1 0) e)
no_end_more x b n h (y ∷ u) v e = h u v (cc)

no_end_less : (x : ℕ) (b : Bytes) → NoEnd (x ∷ b) → NoEnd b
no_end_less x b h u v e = h (x ∷ u) v (ap (λ (s : Bytes). x ∷ s) e)

no_end_here : (x : ℕ) (b : Bytes) → NoEnd (x ∷ b) → x ≡ 42 → get_or b 0 0 ≡ 47 → ⊥
no_end_here x [] h a e = omega arith
no_end_here x (y ∷ b) h a e = h [] b (λ i. a i ∷ e i ∷ b)

-- no end begins at x
in_comment_more : (x : ℕ) (r : Bytes) → (x ≡ 42 → get_or r 0 0 ≡ 47 → ⊥) → in_comment (x ∷ r) ≡ suc (in_comment r)
in_comment_more x r n = ap (λ (t : Bool). cond t 2 (suc (in_comment r))) (not_both x (get_or r 0 0) 42 47 n)

in_comment_open : (b : Bytes) → NoEnd b → in_comment b ≡ length b
in_comment_open [] h = refl
in_comment_open (x ∷ b) h = in_comment_more x b (no_end_here x b h) ∙ ap suc (in_comment_open b (no_end_less x b h))

-- what stands before the end does not make one with it
before_end : (x : ℕ) (b t : Bytes) → (x ≡ 42 → get_or b 0 0 ≡ 47 → ⊥) → x ≡ 42 → get_or (b ++ 42 ∷ 47 ∷ t) 0 0 ≡ 47 → ⊥
before_end x [] t n a e = omega arith
before_end x (y ∷ b) t n a e = n a e

in_comment_closed : (b t : Bytes) → NoEnd b → in_comment (b ++ 42 ∷ 47 ∷ t) ≡ length b + 2
in_comment_closed [] t h = refl
in_comment_closed (x ∷ b) t h =
    in_comment_more x (b ++ 42 ∷ 47 ∷ t) (before_end x b t (no_end_here x b h)) ∙ omega (arith, in_comment_closed b t (no_end_less x b h))

gap_over_blank : (c : Bool) (x : ℕ) (s : Bytes) → blank x ≡ true → gap c between (x ∷ s) ≡ suc (gap c between s)
gap_over_blank c x s e = ap (λ (t : Bool). cond t (suc (gap c between s)) (cond (c && eqb x 47) (gap c stroke s) 0)) e

gap_over_comment : (b s : Bytes) → NoEnd b → gap true between (47 ∷ 42 ∷ (b ++ 42 ∷ 47 ∷ s)) ≡ length b + 4 + gap true between s
gap_over_comment b s h =
    let t = b ++ 42 ∷ 47 ∷ s in
    let n = in_comment_closed b s h in
    let l : length (b ++ 42 ∷ 47 ∷ []) ≡ in_comment t = length-append b (42 ∷ 47 ∷ []) ∙ sym n in
    let d : drop (in_comment t) t ≡ s = ap (drop (in_comment t)) (sym (append_assoc b (42 ∷ 47 ∷ []) s)) ∙ drop_at (b ++ 42 ∷ 47 ∷ []) s (in_comment t) l in
    let e : gap true inside t ≡ in_comment t + gap true between s = inside_is true t ∙ ap (λ (q : Bytes). in_comment t + gap true between q) d in
    omega arith

gap_over : {c : Bool} {g : Bytes} (s : Bytes) → Gaps c g → gap c between (g ++ s) ≡ length g + gap c between s
gap_over {c} s no_gap = omega arith
gap_over {c} s (a_blank {x = x} {g = g} e h) = gap_over_blank c x (g ++ s) e ∙ omega (arith, gap_over s h)
gap_over s (a_comment b g n h) =
    ap (λ (q : Bytes). gap true between (47 ∷ 42 ∷ q)) (append_assoc b (42 ∷ 47 ∷ g) s)
    ∙ gap_over_comment b (g ++ s) n ∙ omega (arith, gap_over s h, length-append b (42 ∷ 47 ∷ g))

gap_ends : {c : Bool} {s : Bytes} → Ending c s → gap c between s ≡ length s
gap_ends at_end = refl
gap_ends line_comment = refl
gap_ends (open_comment {b} n) =
    let e = inside_is true b in
    let i = in_comment_open b n in
    let z : gap true between (drop (in_comment b) b) ≡ 0 = ap (gap true between) (drop_all (in_comment b) b (omega arith)) in
    omega arith

gap_begins : {c : Bool} {s : Bytes} → Begins c s → gap c between s ≡ 0
gap_begins {c} (solid {x = x} {r = r} h) = gap_zero c (x ∷ r) (λ _. h.no_blank) h.no_block h.no_line

data Parted : Bool → Bytes → Type 0 where
  ends_here : {c : Bool} (g s : Bytes) → Gaps c g → Ending c s → Parted c (g ++ s)
  goes_on : {c : Bool} (g : Bytes) (x : ℕ) (r : Bytes) → Gaps c g → Solid c x r → Parted c (g ++ x ∷ r)

blank_part : (c : Bool) (x : ℕ) (s : Bytes) → blank x ≡ true → Parted c s → Parted c (x ∷ s)
blank_part c x s e (ends_here g t h k) = ends_here (x ∷ g) t (a_blank e h) k
blank_part c x s e (goes_on g y r h k) = goes_on (x ∷ g) y r (a_blank e h) k

comment_part : (b s : Bytes) → NoEnd b → Parted true s → Parted true (47 ∷ 42 ∷ (b ++ 42 ∷ 47 ∷ s))
comment_part b s n (ends_here g t h k) =
    subst (λ (q : Bytes). Parted true (47 ∷ 42 ∷ q)) (append_assoc b (42 ∷ 47 ∷ g) t) (ends_here (47 ∷ 42 ∷ (b ++ 42 ∷ 47 ∷ g)) t (a_comment b g n h) k)
comment_part b s n (goes_on g y r h k) =
    subst (λ (q : Bytes). Parted true (47 ∷ 42 ∷ q)) (append_assoc b (42 ∷ 47 ∷ g) (y ∷ r)) (goes_on (47 ∷ 42 ∷ (b ++ 42 ∷ 47 ∷ g)) y r (a_comment b g n h) k)

-- a block comment's inside: up to its end, or without one
data Closes : Bytes → Type 0 where
  closed_at : (b t : Bytes) → NoEnd b → Closes (b ++ 42 ∷ 47 ∷ t)
  never : {s : Bytes} → NoEnd s → Closes s

closes_more : (x : ℕ) (r : Bytes) → (x ≡ 42 → get_or r 0 0 ≡ 47 → ⊥) → Closes r → Closes (x ∷ r)
closes_more x r n (closed_at [] t h) = closed_at (x ∷ []) t (no_end_more x [] (λ _ e. omega arith) h)
closes_more x r n (closed_at (y ∷ b) t h) = closed_at (x ∷ y ∷ b) t (no_end_more x (y ∷ b) n h)
closes_more x r n (never h) = never (no_end_more x r n h)

closes_here : (x : ℕ) (r : Bytes) → x ≡ 42 → get_or r 0 0 ≡ 47 → Closes (x ∷ r)
closes_here x [] a e = absurd (omega arith)
closes_here x (y ∷ r) a e = subst Closes (λ i. sym a i ∷ sym e i ∷ r) (closed_at [] r no_end_nil)

closes : (s : Bytes) → Closes s
closes [] = never no_end_nil
closes (x ∷ r) = go (cases_eq x 42) (cases_eq (get_or r 0 0) 47) (closes r)
  where
    go : (x ≡ 42) ⊎ (x ≡ 42 → ⊥) → (get_or r 0 0 ≡ 47) ⊎ (get_or r 0 0 ≡ 47 → ⊥) → Closes r → Closes (x ∷ r)
    go (inl a) (inl e) h = closes_here x r a e
    go (inl a) (inr n) h = closes_more x r (λ _ e. n e) h
    go (inr n) k h = closes_more x r (λ a _. n a) h

-- each shorter line is parted
abbrev Shorter : Bool → ℕ → Type 0
Shorter c n = (t : Bytes) → length t ≤ n → Parted c t

block_part : (s : Bytes) → Shorter true (length s) → Closes s → Parted true (47 ∷ 42 ∷ s)
block_part s ih (closed_at b t h) = comment_part b t h (ih t (omega (arith, length-append b (42 ∷ 47 ∷ t))))
block_part s ih (never h) = ends_here [] (47 ∷ 42 ∷ s) no_gap (open_comment h)

slash_part : (s : Bytes) → Shorter true (length s) → Parted true (47 ∷ s)
slash_part [] ih = goes_on [] 47 [] no_gap (record { no_blank = refl; no_block = λ _ _ e. omega arith; no_line = λ _ _ e. omega arith })
slash_part (y ∷ s) ih = go (cases_eq y 42) (cases_eq y 47)
  where
    go : (y ≡ 42) ⊎ (y ≡ 42 → ⊥) → (y ≡ 47) ⊎ (y ≡ 47 → ⊥) → Parted true (47 ∷ y ∷ s)
    go (inl e) k = subst (λ (z : ℕ). Parted true (47 ∷ z ∷ s)) (sym e) (block_part s (λ t l. ih t (omega arith)) (closes s))
    go (inr n) (inl e) = subst (λ (z : ℕ). Parted true (47 ∷ z ∷ s)) (sym e) (ends_here [] (47 ∷ 47 ∷ s) no_gap line_comment)
    go (inr n) (inr m) = goes_on [] 47 (y ∷ s) no_gap (record { no_blank = refl; no_block = λ _ _ e. n e; no_line = λ _ _ e. m e })

other_part : (c : Bool) (x : ℕ) (s : Bytes) → blank x ≡ false → Shorter c (length s) → Parted c (x ∷ s)
other_part false x s b ih = goes_on [] x s no_gap (record { no_blank = b; no_block = λ k _ _. absurd (no_true k); no_line = λ k _ _. absurd (no_true k) })
  where
    no_true : false ≡ true → ⊥
    no_true k = let z : ◌≡◌ {A = ℕ} 0 1 = cc in omega arith
other_part true x s b ih = go (cases_eq x 47)
  where
    go : (x ≡ 47) ⊎ (x ≡ 47 → ⊥) → Parted true (x ∷ s)
    go (inl e) = subst (λ (z : ℕ). Parted true (z ∷ s)) (sym e) (slash_part s ih)
    go (inr n) = goes_on [] x s no_gap (record { no_blank = b; no_block = λ _ e _. n e; no_line = λ _ e _. n e })

parted : (k : ℕ) (c : Bool) (s : Bytes) → length s ≤ k → Parted c s
parted k c [] h = ends_here [] [] no_gap at_end
parted zero c (x ∷ s) h = absurd (omega arith)
parted (suc k) c (x ∷ s) h = go (blank x) refl (λ t l. parted k c t (omega arith))
  where
    go : (b : Bool) → blank x ≡ b → Shorter c (length s) → Parted c (x ∷ s)
    go true e ih = blank_part c x s e (ih s (omega arith))
    go false e ih = other_part c x s e ih

all_ends : {c : Bool} (at : ℕ) (g s : Bytes) → Gaps c g → Ending c s → all c at (g ++ s) ≡ []
all_ends {c} at g s h k =
    let n = gap c between (g ++ s) in
    let e : n ≡ length g + length s = gap_over s h ∙ ap (λ (m : ℕ). length g + m) (gap_ends k) in
    all_begun c at (g ++ s) ∙ ap (begun (all c) (at + n)) (drop_all n (g ++ s) (omega (arith, length-append g s)))

-- a token at its place, and the tokens behind it
begun_token : (f : ℕ → Bytes → List Placed) (at : ℕ) (c : Bool) (s : Bytes) → Begins c s → (t : Tok) (n : ℕ) → front s ≡ (t, n) → begun f at s ≡ (t, at) ∷ f (at + n) (drop n s)
begun_token f at c s (solid h) t n e = λ i. ((e i).0, at) ∷ f (at + (e i).1) (drop (e i).1 s)

all_token : {c : Bool} (at : ℕ) (g w r : Bytes) {t : Tok} → Gaps c g → Spells c w r t → all c at (g ++ (w ++ r)) ≡ (t, at + length g) ∷ all c (at + length g + length w) r
all_token {c} at g w r {t} h k =
    let s = w ++ r in
    let e : gap c between (g ++ s) ≡ length g = gap_over s h ∙ ap (λ (m : ℕ). length g + m) (gap_begins (begins k)) ∙ omega arith in
    all_begun c at (g ++ s)
    ∙ ap (λ (m : ℕ). begun (all c) (at + m) (drop m (g ++ s))) e
    ∙ ap (begun (all c) (at + length g)) (drop_at g s (length g) refl)
    ∙ begun_token (all c) (at + length g) c s (begins k) t (length w) (front_spelt k)
    ∙ ap (λ (q : Bytes). (t, at + length g) ∷ all c (at + length g + length w) q) (drop_at w r (length w) refl)

pub only : {c : Bool} {at : ℕ} {s : Bytes} {ps : List Placed} → Reads c at s ps → ps ≡ all c at s
only {at = at} (no_more g s h k) = sym (all_ends at g s h k)
only {at = at} (a_token g w r {t} {ps} h k rest) = ap (λ (qs : List Placed). (t, at + length g) ∷ qs) (only rest) ∙ sym (all_token at g w r h k)

reads_by : {c : Bool} (at : ℕ) {s : Bytes} → Parted c s → ((n : ℕ) (q : Bytes) → length q < length s → Reads c n q (all c n q)) → Reads c at s (all c at s)
reads_by {c} at (ends_here g s h k) ih = subst (λ (ps : List Placed). Reads c at (g ++ s) ps) (sym (all_ends at g s h k)) (no_more g s h k)
reads_by {c} at (goes_on g x r h k) ih =
    let p = spelt c x r k in
    let w = p.0 in
    let q = p.1 in
    let shorter : length q < length (g ++ x ∷ r) = omega (arith, length-append g (x ∷ r), ap length p.3, length-append w q, spelt_some p.4) in
    subst (λ (s : Bytes). Reads c at (g ++ s) (all c at (g ++ s))) (sym p.3)
    (subst (λ (ps : List Placed). Reads c at (g ++ (w ++ q)) ps) (sym (all_token at g w q h p.4))
    (a_token g w q h p.4 (ih (at + length g + length w) q shorter)))

reads_of : (k : ℕ) (c : Bool) (at : ℕ) (s : Bytes) → length s < k → Reads c at s (all c at s)
reads_of zero c at s h = absurd (omega arith)
reads_of (suc k) c at s h = reads_by at (parted (length s) c s (omega arith)) (λ n q l. reads_of k c n q (omega arith))

pub reads : (c : Bool) (at : ℕ) (s : Bytes) → Reads c at s (all c at s)
reads c at s = reads_of (suc (length s)) c at s (omega arith)

-- What the bytes of one token are: as the rules have it, and as `front` finds it. Assumes nothing.
--   word_is          the rules' word is the word found
--   worded           each run is a word
--   front_spelt      the token that the rules spell is the one found in front
--   Solid c x r      the byte x, before r, is no blank and begins no comment
--   Begins c s       s begins with such a byte
--   begins           a spelt token begins so
--   spelt_some       it has a byte at least
--   spelt            what begins so, begins with a token
use Rattle.std.proofs.Common.{◌≡◌, ℕ, ◌<◌, Bool, true, false, cond, ◌&&◌, eqb, leb, ◌⊎◌, [], ◌∷◌, ◌++◌, length, get_or, codes, sym, refl, ap, ◌∙◌, subst, inl, inr, arith}
use Rattle.std.specs.Str.{bytes_eq}
use Rattle.std.proofs.lemmas.Slice.Eq.{bytes_eq-Decides}
use Rattle.std.proofs.lemmas.Bool.Decides.{not_from_Decides, nat_tests}
use Rattle.std.proofs.lemmas.Bool.{ne_eqb, le-leb, lt-leb, leb-true, leb-false, cases_eq, and_right}
use Rattle.text.specs.Classes.{blank, digit}
use Rattle.text.specs.Tokens.{Bytes, Tok, word_byte, run, word, pair, front, nought, unit, defined, not, and, or, opened, closed, name, other}
use Rattle.text.specs.Reading.{Word, zero_word, one_word, other_number, defined_word, a_name, too_long, Run, one_byte, more_bytes, Spells, a_not, an_open, a_close, an_and, an_or, a_run, a_byte}
use Rattle.text.proofs.Fronts.{chosen}
use Rattle.text.proofs.Gaps.{not_both}

differ : (w v : Bytes) → (w ≡ v → ⊥) → bytes_eq w v ≡ false
differ w v n = go (bytes_eq w v) refl
  where
    go : (b : Bool) → bytes_eq w v ≡ b → b ≡ false
    go true e = absurd (n ((bytes_eq-Decides w v).0 e))
    go false e = refl

-- the word by the tests in their order
abbrev sorted : Bool → Bool → Bool → Bool → Bool → Bytes → Tok
sorted d z o k n w = cond d (cond z nought (cond o unit other)) (cond k defined (cond n (name w) other))

pub word_is : {w : Bytes} {t : Tok} → Word w t → word w ≡ t
word_is zero_word = refl
word_is one_word = refl
word_is (other_number {w} d z o) = λ i. sorted (d i) (differ w (codes "0") z i) (differ w (codes "1") o i) (bytes_eq w (codes "defined")) (leb (length w) 63) w
word_is defined_word = refl
word_is (a_name {w} d k n) = λ i. sorted (d i) (bytes_eq w (codes "0")) (bytes_eq w (codes "1")) (differ w (codes "defined") k i) (le-leb (length w) 63 n i) w
word_is (too_long {w} d n) =
    let k : w ≡ codes "defined" → ⊥ = λ e. omega (arith, ap length e) in
    λ i. sorted (d i) (bytes_eq w (codes "0")) (bytes_eq w (codes "1")) (differ w (codes "defined") k i) (lt-leb (length w) 63 n i) w

pub worded : (w : Bytes) → (t : Tok) × Word w t
worded w = go (digit (get_or w 0 0)) (bytes_eq w (codes "0")) (bytes_eq w (codes "1")) (bytes_eq w (codes "defined")) (leb (length w) 63) refl refl refl refl refl
  where
    unlike : (v : Bytes) → bytes_eq w v ≡ false → w ≡ v → ⊥
    unlike v e = not_from_Decides (bytes_eq w v) (bytes_eq-Decides w v) e

    go : (d z o k n : Bool) → digit (get_or w 0 0) ≡ d → bytes_eq w (codes "0") ≡ z → bytes_eq w (codes "1") ≡ o → bytes_eq w (codes "defined") ≡ k → leb (length w) 63 ≡ n → (t : Tok) × Word w t
    go true true o k n hd hz ho hk hn = (nought, subst (λ (v : Bytes). Word v nought) (sym ((bytes_eq-Decides w (codes "0")).0 hz)) zero_word)
    go true false true k n hd hz ho hk hn = (unit, subst (λ (v : Bytes). Word v unit) (sym ((bytes_eq-Decides w (codes "1")).0 ho)) one_word)
    go true false false k n hd hz ho hk hn = (other, other_number hd (unlike (codes "0") hz) (unlike (codes "1") ho))
    go false z o true n hd hz ho hk hn = (defined, subst (λ (v : Bytes). Word v defined) (sym ((bytes_eq-Decides w (codes "defined")).0 hk)) defined_word)
    go false z o false true hd hz ho hk hn = (name w, a_name hd (unlike (codes "defined") hk) (leb-true (length w) 63 hn))
    go false z o false false hd hz ho hk hn = (other, too_long hd (leb-false (length w) 63 hn))

run_over : (r : Bytes) → word_byte (get_or r 0 0) ≡ false → run r ≡ []
run_over [] e = refl
run_over (x ∷ r) e = ap (λ (b : Bool). cond b (x ∷ run r) []) e

run_is : {w : Bytes} (r : Bytes) → Run w → word_byte (get_or r 0 0) ≡ false → run (w ++ r) ≡ w
run_is r (one_byte {x} e) n = ap (λ (b : Bool). cond b (x ∷ run r) []) e ∙ ap (λ (z : Bytes). x ∷ z) (run_over r n)
run_is r (more_bytes {x} {w} e a) n = ap (λ (b : Bool). cond b (x ∷ run (w ++ r)) []) e ∙ ap (λ (z : Bytes). x ∷ z) (run_is r a n)

-- a letter or a digit is not k, which is neither
not_that : (x k : ℕ) → word_byte k ≡ false → word_byte x ≡ true → x ≡ k → ⊥
not_that x k n h e = let z : true ≡ false = sym h ∙ ap word_byte e ∙ n in let q : ◌≡◌ {A = ℕ} 0 1 = cc in omega arith

no_pair : (x : ℕ) (r : Bytes) (k : ℕ) → (x ≡ k → get_or r 0 0 ≡ k → ⊥) → pair (x ∷ r) k ≡ false
no_pair x r k n = and_right (leb 2 (length (x ∷ r))) (eqb x k && eqb (get_or r 0 0) k) (not_both x (get_or r 0 0) k k n)

front_word : (x : ℕ) (r : Bytes) → word_byte x ≡ true → front (x ∷ r) ≡ (word (run (x ∷ r)), length (run (x ∷ r)))
front_word x r h =
    let s = x ∷ r in
    let e33 = ne_eqb x 33 (not_that x 33 refl h) in
    let e40 = ne_eqb x 40 (not_that x 40 refl h) in
    let e41 = ne_eqb x 41 (not_that x 41 refl h) in
    let p38 = no_pair x r 38 (λ e _. not_that x 38 refl h e) in
    let p124 = no_pair x r 124 (λ e _. not_that x 124 refl h e) in
    λ i. chosen (e33 i) (e40 i) (e41 i) (p38 i) (p124 i) (h i) (word (run s)) (length (run s))

front_run : {w : Bytes} (r : Bytes) → Run w → word_byte (get_or r 0 0) ≡ false → front (w ++ r) ≡ (word w, length w)
front_run r (one_byte {x} e) n = front_word x r e ∙ ap (λ (z : Bytes). (word z, length z)) (run_is r (one_byte {x = x} e) n)
front_run r (more_bytes {x} {w} e a) n = front_word x (w ++ r) e ∙ ap (λ (z : Bytes). (word z, length z)) (run_is r (more_bytes {x = x} e a) n)

two : (r : Bytes) (k : ℕ) → eqb k k ≡ true → pair (k ∷ k ∷ r) k ≡ true
two r k e = λ i. le-leb 2 (length (k ∷ k ∷ r)) (omega arith) i && (e i && e i)

pub front_spelt : {c : Bool} {w r : Bytes} {t : Tok} → Spells c w r t → front (w ++ r) ≡ (t, length w)
front_spelt a_not = refl
front_spelt an_open = refl
front_spelt a_close = refl
front_spelt (an_and {c} {r}) = λ i. chosen false false false (two r 38 refl i) (pair (38 ∷ 38 ∷ r) 124) (word_byte 38) (word (run (38 ∷ 38 ∷ r))) (length (run (38 ∷ 38 ∷ r)))
front_spelt (an_or {c} {r}) =
    let s = 124 ∷ 124 ∷ r in
    λ i. chosen false false false (no_pair 124 (124 ∷ r) 38 (λ e _. omega arith) i) (two r 124 refl i) (word_byte 124) (word (run s)) (length (run s))
front_spelt (a_run {c} {w} {r} {t} a n h) = front_run r a n ∙ ap (λ (z : Tok). (z, length w)) (word_is h)
front_spelt (a_byte {c} {x} {r} a) =
    let s = x ∷ r in
    let e33 = ne_eqb x 33 a.no_mark.0 in
    let e40 = ne_eqb x 40 a.no_mark.1 in
    let e41 = ne_eqb x 41 a.no_mark.2 in
    let p38 = no_pair x r 38 a.no_and in
    let p124 = no_pair x r 124 a.no_or in
    let h = a.no_word in
    λ i. chosen (e33 i) (e40 i) (e41 i) (p38 i) (p124 i) (h i) (word (run s)) (length (run s))

pub record Solid (c : Bool) (x : ℕ) (r : Bytes) : Type 0 where
  pub no_blank : blank x ≡ false
  pub no_block : c ≡ true → x ≡ 47 → get_or r 0 0 ≡ 42 → ⊥
  pub no_line : c ≡ true → x ≡ 47 → get_or r 0 0 ≡ 47 → ⊥

-- a byte that is no blank and no slash
plain : (c : Bool) (x : ℕ) (r : Bytes) → blank x ≡ false → (x ≡ 47 → ⊥) → Solid c x r
plain c x r b n = record { no_blank = b; no_block = λ _ e _. n e; no_line = λ _ e _. n e }

word_no_blank : (x : ℕ) → word_byte x ≡ true → blank x ≡ false
word_no_blank x h = grind (arith, nat_tests)

pub data Begins : Bool → Bytes → Type 0 where
  solid : {c : Bool} {x : ℕ} {r : Bytes} → Solid c x r → Begins c (x ∷ r)

pub begins : {c : Bool} {w r : Bytes} {t : Tok} → Spells c w r t → Begins c (w ++ r)
begins (a_not {c} {r}) = solid (plain c 33 r refl (λ e. omega arith))
begins (an_open {c} {r}) = solid (plain c 40 r refl (λ e. omega arith))
begins (a_close {c} {r}) = solid (plain c 41 r refl (λ e. omega arith))
begins (an_and {c} {r}) = solid (plain c 38 (38 ∷ r) refl (λ e. omega arith))
begins (an_or {c} {r}) = solid (plain c 124 (124 ∷ r) refl (λ e. omega arith))
begins (a_run {c} {w} {r} a n h) = go a
  where
    go : {w : Bytes} → Run w → Begins c (w ++ r)
    go (one_byte {x} e) = solid (plain c x r (word_no_blank x e) (not_that x 47 refl e))
    go (more_bytes {x = x} {w = v} e b) = solid (plain c x (v ++ r) (word_no_blank x e) (not_that x 47 refl e))
begins (a_byte a) = solid (record { no_blank = a.no_blank; no_block = a.no_block; no_line = a.no_line })

run_some : {w : Bytes} → Run w → 0 < length w
run_some (one_byte e) = omega arith
run_some (more_bytes e a) = omega arith

pub spelt_some : {c : Bool} {w r : Bytes} {t : Tok} → Spells c w r t → 0 < length w
spelt_some a_not = omega arith
spelt_some an_open = omega arith
spelt_some a_close = omega arith
spelt_some an_and = omega arith
spelt_some an_or = omega arith
spelt_some (a_run a n h) = run_some a
spelt_some (a_byte a) = omega arith

-- the longest run in front of a line that begins with a letter or a digit
longest : (x : ℕ) (r : Bytes) → word_byte x ≡ true → (w q : Bytes) × (x ∷ r ≡ w ++ q) × Run w × (word_byte (get_or q 0 0) ≡ false)
longest x [] h = (x ∷ [], [], refl, one_byte h, refl)
longest x (y ∷ r) h = go (word_byte y) refl (longest y r)
  where
    go : (b : Bool) → word_byte y ≡ b → (word_byte y ≡ true → (w q : Bytes) × (y ∷ r ≡ w ++ q) × Run w × (word_byte (get_or q 0 0) ≡ false))
        → (w q : Bytes) × (x ∷ y ∷ r ≡ w ++ q) × Run w × (word_byte (get_or q 0 0) ≡ false)
    go true e more = let m = more e in (x ∷ m.0, m.1, ap (λ (z : Bytes). x ∷ z) m.2, more_bytes h m.3, m.4)
    go false e more = (x ∷ [], y ∷ r, refl, one_byte h, e)

-- a token, and what stands behind it
abbrev pub Spelt : Bool → Bytes → Type 0
Spelt c s = (w q : Bytes) × (t : Tok) × (s ≡ w ++ q) × Spells c w q t

both_are : (x y a b : ℕ) → ((x ≡ a) × (y ≡ b)) ⊎ (x ≡ a → y ≡ b → ⊥)
both_are x y a b = go (cases_eq x a) (cases_eq y b)
  where
    go : (x ≡ a) ⊎ (x ≡ a → ⊥) → (y ≡ b) ⊎ (y ≡ b → ⊥) → ((x ≡ a) × (y ≡ b)) ⊎ (x ≡ a → y ≡ b → ⊥)
    go (inl e) (inl f) = inl (e, f)
    go (inl e) (inr n) = inr (λ _ f. n f)
    go (inr n) f = inr (λ e _. n e)

-- k twice in front
doubled : (x k : ℕ) (r : Bytes) → x ≡ k → get_or r 0 0 ≡ k → (k ≡ 0 → ⊥) → (q : Bytes) × (x ∷ r ≡ k ∷ k ∷ q)
doubled x k [] a b n = absurd (n (sym b))
doubled x k (y ∷ r) a b n = (r, λ i. a i ∷ b i ∷ r)

module _ (c : Bool) (x : ℕ) (r : Bytes) (s : Solid c x r) where
  one : (k : ℕ) (t : Tok) → x ≡ k → Spells c (k ∷ []) r t → Spelt c (x ∷ r)
  one k t e h = (k ∷ [], r, t, ap (λ (z : ℕ). z ∷ r) e, h)

  pairs : word_byte x ≡ false → (x ≡ 33 → ⊥) × (x ≡ 40 → ⊥) × (x ≡ 41 → ⊥)
      → ((x ≡ 38) × (get_or r 0 0 ≡ 38)) ⊎ (x ≡ 38 → get_or r 0 0 ≡ 38 → ⊥)
      → ((x ≡ 124) × (get_or r 0 0 ≡ 124)) ⊎ (x ≡ 124 → get_or r 0 0 ≡ 124 → ⊥) → Spelt c (x ∷ r)
  pairs w m (inl a) o = let d = doubled x 38 r a.0 a.1 (λ e. omega arith) in (38 ∷ 38 ∷ [], d.0, and, d.1, an_and)
  pairs w m (inr a) (inl o) = let d = doubled x 124 r o.0 o.1 (λ e. omega arith) in (124 ∷ 124 ∷ [], d.0, or, d.1, an_or)
  pairs w m (inr a) (inr o) =
      (x ∷ [], r, other, refl, a_byte (record { no_blank = s.no_blank; no_word = w; no_mark = m; no_and = a; no_or = o; no_block = s.no_block; no_line = s.no_line }))

  marks : word_byte x ≡ false → (x ≡ 33) ⊎ (x ≡ 33 → ⊥) → (x ≡ 40) ⊎ (x ≡ 40 → ⊥) → (x ≡ 41) ⊎ (x ≡ 41 → ⊥) → Spelt c (x ∷ r)
  marks w (inl e) n m = one 33 not e a_not
  marks w (inr l) (inl e) m = one 40 opened e an_open
  marks w (inr l) (inr n) (inl e) = one 41 closed e a_close
  marks w (inr l) (inr n) (inr m) = pairs w (l, n, m) (both_are x (get_or r 0 0) 38 38) (both_are x (get_or r 0 0) 124 124)

  pub spelt : Spelt c (x ∷ r)
  spelt = go (word_byte x) refl
    where
      go : (b : Bool) → word_byte x ≡ b → Spelt c (x ∷ r)
      go true e = let l = longest x r e in let h = worded l.0 in (l.0, l.1, h.0, l.2, a_run l.3 l.4 h.1)
      go false e = marks e (cases_eq x 33) (cases_eq x 40) (cases_eq x 41)

-- The run of letters and digits in front, and what stands behind it. Assumes nothing.
--   run_past         s is its run and what stands behind it
--   past_stops       no letter or digit stands first behind the run
--   run_run          a run that is not empty is one by the rules
--   run_is, past_is  the run that the rules have, and what stands behind it
--   run_solid        neither a blank nor a comment begins a run
--   behind_run       what is left behind the run, by its length
use Rattle.std.proofs.Common.{◌≡◌, ℕ, ◌≤◌, Bool, true, false, cond, not, ◌&&◌, ◌||◌, eqb, [], ◌∷◌, ◌++◌, length, get_or, take, drop, sym, refl, ap, ◌∙◌, ap₂, arith}
use Rattle.std.proofs.lemmas.List.{drop_at, length-take-le}
use Rattle.std.proofs.lemmas.Bool.Decides.{nat_tests}
use Rattle.text.specs.Reading.{Run, one_byte, more_bytes}
use Rattle.directives.specs.Gaps.{Bytes, word_byte, blank, begins, solid}
use Rattle.directives.specs.Directives.{run, past}

pub run_past : (s : Bytes) → run s ++ past s ≡ s
run_past [] = refl
run_past (x ∷ r) = go (word_byte x) (run_past r)
  where
    go : (b : Bool) → run r ++ past r ≡ r → cond b (x ∷ run r) [] ++ cond b (past r) (x ∷ r) ≡ x ∷ r
    go true e = ap (λ (z : Bytes). x ∷ z) e
    go false e = refl

pub past_stops : (s : Bytes) → word_byte (get_or (past s) 0 0) ≡ false
past_stops [] = refl
past_stops (x ∷ r) = go (word_byte x) refl (past_stops r)
  where
    go : (b : Bool) → word_byte x ≡ b → word_byte (get_or (past r) 0 0) ≡ false → word_byte (get_or (cond b (past r) (x ∷ r)) 0 0) ≡ false
    go true e h = h
    go false e h = e

more : (x : ℕ) (w : Bytes) → word_byte x ≡ true → ((w ≡ [] → ⊥) → Run w) → Run (x ∷ w)
more x [] e h = one_byte e
more x (y ∷ w) e h = more_bytes e (h (λ n. let z : ◌≡◌ {A = ℕ} 0 1 = cc in omega arith))

pub run_run : (s : Bytes) → (run s ≡ [] → ⊥) → Run (run s)
run_run [] n = absurd (n refl)
run_run (x ∷ r) n = go (word_byte x) refl (run_run r) n
  where
    go : (b : Bool) → word_byte x ≡ b → ((run r ≡ [] → ⊥) → Run (run r)) → (cond b (x ∷ run r) [] ≡ [] → ⊥) → Run (cond b (x ∷ run r) [])
    go true e h n = more x (run r) e h
    go false e h n = absurd (n refl)

run_over : (r : Bytes) → word_byte (get_or r 0 0) ≡ false → (run r ≡ []) × (past r ≡ r)
run_over [] e = (refl, refl)
run_over (x ∷ r) e = (ap (λ (b : Bool). cond b (x ∷ run r) []) e, ap (λ (b : Bool). cond b (past r) (x ∷ r)) e)

pub run_is : {w : Bytes} (r : Bytes) → Run w → word_byte (get_or r 0 0) ≡ false → run (w ++ r) ≡ w
run_is r (one_byte {x} e) n = ap (λ (b : Bool). cond b (x ∷ run r) []) e ∙ ap (λ (z : Bytes). x ∷ z) (run_over r n).0
run_is r (more_bytes {x} {w} e a) n = ap (λ (b : Bool). cond b (x ∷ run (w ++ r)) []) e ∙ ap (λ (z : Bytes). x ∷ z) (run_is r a n)

pub past_is : {w : Bytes} (r : Bytes) → Run w → word_byte (get_or r 0 0) ≡ false → past (w ++ r) ≡ r
past_is r (one_byte {x} e) n = ap (λ (b : Bool). cond b (past r) (x ∷ r)) e ∙ (run_over r n).1
past_is r (more_bytes {x} {w} e a) n = ap (λ (b : Bool). cond b (past (w ++ r)) (x ∷ w ++ r)) e ∙ past_is r a n

word_solid : (x : ℕ) (r : Bytes) → word_byte x ≡ true → solid (x ∷ r) ≡ true
word_solid x r h =
    let b : blank x ≡ false = grind (arith, nat_tests) in
    let s : eqb x 47 ≡ false = grind (arith, nat_tests) in
    ap₂ (λ (a b : Bool). not (a || (b && begins 42 r))) b s

pub run_solid : {w : Bytes} (r : Bytes) → Run w → solid (w ++ r) ≡ true
run_solid r (one_byte {x} e) = word_solid x r e
run_solid r (more_bytes {x} {w} e a) = word_solid x (w ++ r) e

pub behind_run : (s : Bytes) (n : ℕ) → take n s ≡ run s → n ≤ length s → drop n s ≡ past s
behind_run s n e h =
    let p = run_past s in
    let k : n ≡ length (run s) = sym (length-take-le n s h) ∙ ap length e in
    ap (drop n) (sym p) ∙ drop_at (run s) (past s) n (sym k)

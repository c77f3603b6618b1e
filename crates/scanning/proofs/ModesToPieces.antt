-- From the modes to the pieces of a line: whatever the bytes, the law finds pieces in them, and says open where the modes do. Assumes nothing.
--   Tail z s b     s stands behind the quote that begins a literal; b: a block comment is open at its end
--   code_found     the law on bytes from code on
--   scanned_found  the law on a line
--   law, only      the law holds of what the modes say, and of nothing else
use Rattle.std.proofs.Common.{◌≡◌, ℕ, Bool, true, false, cond, not, ◌&&◌, eqb, [], ◌∷◌, ◌++◌, sym, refl, ap, ◌∙◌, subst, ap₂}
use Rattle.std.proofs.lemmas.Bool.{eqb-true, false≢true}
use Rattle.scanning.specs.declared.Mode.{Mode}
use Rattle.scanning.specs.declared.Mode.TheVariants.{Code as InCode, Slash, Block, Star, Line, Text, Character}
use Rattle.scanning.specs.Bytes.{Bytes}
use Rattle.scanning.specs.Modes.{step, steps, open_in, open_after}
use Rattle.scanning.specs.Pieces.{Quote, double, single, quote_mark, Quoted, escape, begins, free, Code, divide, line_comment, comment, open_comment, literal, unclosed_literal, unclosed_escape, Scanned, from_code, closed, still_open}
use Rattle.scanning.proofs.PiecesToModes.{in_text, in_escape, in_line, step_literal, step_escape, shut_literal, shut_escape, scanned_open}

-- a byte more in front of a line that began in a comment
front : (x : ℕ) (c s : Bytes) → (eqb x 42 && begins 47 (c ++ 42 ∷ s)) ≡ false → free c ≡ true → free (x ∷ c) ≡ true
front x [] s n f = alone (eqb x 42)
  where
    alone : (a : Bool) → (not (a && false) && true) ≡ true
    alone true = refl
    alone false = refl
front x (y ∷ c) s n f = ap₂ (λ (a b : Bool). not a && b) n f

prefix : (x : ℕ) {s : Bytes} {b : Bool} → (eqb x 42 && begins 47 s) ≡ false → Scanned true s b → Scanned true (x ∷ s) b
prefix x n k = go k n refl
  where
    go : {c : Bool} {s : Bytes} {b : Bool} → Scanned c s b → (eqb x 42 && begins 47 s) ≡ false → c ≡ true → Scanned true (x ∷ s) b
    go (from_code k) n e = absurd (false≢true e)
    go (closed c s f k) n e = closed (x ∷ c) s (front x c (47 ∷ s) n f) k
    go (still_open f) n e = still_open (ap₂ (λ (a b : Bool). not a && b) n f)

-- a comment that code begins goes on as a line that began in one
block_code : {c : Bool} {s : Bytes} {b : Bool} → Scanned c s b → c ≡ true → Code (47 ∷ 42 ∷ s) b
block_code (from_code k) e = absurd (false≢true e)
block_code (closed c s f k) e = comment c s f k
block_code (still_open f) e = open_comment f

data Tail (z : Quote) : Bytes → Bool → Type 0 where
  ends : (q s : Bytes) {b : Bool} → Quoted z q → Code s b → Tail z (q ++ quote_mark z ∷ s) b
  runs_on : (q : Bytes) → Quoted z q → Tail z q false
  runs_out : (q : Bytes) → Quoted z q → Tail z (q ++ 92 ∷ []) false

tail_code : (z : Quote) {s : Bytes} {b : Bool} → Tail z s b → Code (quote_mark z ∷ s) b
tail_code z (ends q s k j) = literal z q s k j
tail_code z (runs_on q k) = unclosed_literal z q k
tail_code z (runs_out q k) = unclosed_escape z q k

tail_byte : (z : Quote) (x : ℕ) {s : Bytes} {b : Bool} → eqb x (quote_mark z) ≡ false → eqb x 92 ≡ false → Tail z s b → Tail z (x ∷ s) b
tail_byte z x n m (ends q s k j) = ends (x ∷ q) s (Quoted.byte n m k) j
tail_byte z x n m (runs_on q k) = runs_on (x ∷ q) (Quoted.byte n m k)
tail_byte z x n m (runs_out q k) = runs_out (x ∷ q) (Quoted.byte n m k)

tail_escape : (z : Quote) (x : ℕ) {s : Bytes} {b : Bool} → Tail z s b → Tail z (92 ∷ x ∷ s) b
tail_escape z x (ends q s k j) = ends (92 ∷ x ∷ q) s (escape k) j
tail_escape z x (runs_on q k) = runs_on (92 ∷ x ∷ q) (escape k)
tail_escape z x (runs_out q k) = runs_out (92 ∷ x ∷ q) (escape k)

-- a byte of code that is no slash
no_slash : (x : ℕ) (s : Bytes) → eqb x 47 ≡ false → Code s (open_in (steps InCode s))
    → Tail double s (open_in (steps Text s)) → Tail single s (open_in (steps Character s))
    → Code (x ∷ s) (open_in (steps (cond (eqb x 34) Text (cond (eqb x 39) Character InCode)) s))
no_slash x s n k d t = go (eqb x 34) (eqb x 39) refl refl
  where
    go : (a b : Bool) → eqb x 34 ≡ a → eqb x 39 ≡ b → Code (x ∷ s) (open_in (steps (cond a Text (cond b Character InCode)) s))
    go true b p q = subst (λ (x : ℕ). Code (x ∷ s) (open_in (steps Text s))) (sym (eqb-true x 34 p)) (tail_code double d)
    go false true p q = subst (λ (x : ℕ). Code (x ∷ s) (open_in (steps Character s))) (sym (eqb-true x 39 q)) (tail_code single t)
    go false false p q = Code.byte n p q k

after_slash : (x : ℕ) (s : Bytes) → Code s (open_in (steps InCode s)) → Scanned true s (open_in (steps Block s))
    → Tail double s (open_in (steps Text s)) → Tail single s (open_in (steps Character s))
    → Code (47 ∷ x ∷ s) (open_in (steps (step Slash x) s))
after_slash x s k b d t = go (eqb x 42) (eqb x 47) refl refl
  where
    go : (a c : Bool) → eqb x 42 ≡ a → eqb x 47 ≡ c
        → Code (47 ∷ x ∷ s) (open_in (steps (cond a Block (cond c Line (cond (eqb x 34) Text (cond (eqb x 39) Character InCode)))) s))
    go true c p q = subst (λ (x : ℕ). Code (47 ∷ x ∷ s) (open_in (steps Block s))) (sym (eqb-true x 42 p)) (block_code b refl)
    go false true p q =
        subst (λ (x : ℕ). Code (47 ∷ x ∷ s) (open_in (steps Line s))) (sym (eqb-true x 47 q))
        (subst (λ (m : Mode). Code (47 ∷ 47 ∷ s) (open_in m)) (sym (in_line s)) line_comment)
    go false false p q = divide q p (no_slash x s q k d t)

within_comment : (x : ℕ) (s : Bytes) → Scanned true s (open_in (steps Block s)) → Scanned true (42 ∷ s) (open_in (steps Star s))
    → Scanned true (x ∷ s) (open_in (steps (cond (eqb x 42) Star Block) s))
within_comment x s b t = go (eqb x 42) refl
  where
    go : (a : Bool) → eqb x 42 ≡ a → Scanned true (x ∷ s) (open_in (steps (cond a Star Block) s))
    go true p = subst (λ (x : ℕ). Scanned true (x ∷ s) (open_in (steps Star s))) (sym (eqb-true x 42 p)) t
    go false p = prefix x (ap (λ (a : Bool). a && begins 47 s) p) b

after_star : (x : ℕ) (s : Bytes) → Code s (open_in (steps InCode s)) → Scanned true s (open_in (steps Block s)) → Scanned true (42 ∷ s) (open_in (steps Star s))
    → Scanned true (42 ∷ x ∷ s) (open_in (steps (step Star x) s))
after_star x s k b t = go (eqb x 47) refl
  where
    go : (a : Bool) → eqb x 47 ≡ a → Scanned true (42 ∷ x ∷ s) (open_in (steps (cond a InCode (cond (eqb x 42) Star Block)) s))
    go true p = subst (λ (x : ℕ). Scanned true (42 ∷ x ∷ s) (open_in (steps InCode s))) (sym (eqb-true x 47 p)) (closed [] s refl k)
    go false p = prefix 42 p (within_comment x s b t)

after_quote : (z : Quote) (x : ℕ) (s : Bytes) → Code s (open_in (steps InCode s)) → Tail z s (open_in (steps (in_text z) s))
    → Tail z (92 ∷ s) (open_in (steps (in_escape z) s)) → Tail z (x ∷ s) (open_in (steps (step (in_text z) x) s))
after_quote z x s k t e = subst (λ (m : Mode). Tail z (x ∷ s) (open_in (steps m s))) (sym (step_literal z x)) (go (eqb x (quote_mark z)) (eqb x 92) refl refl)
  where
    go : (a b : Bool) → eqb x (quote_mark z) ≡ a → eqb x 92 ≡ b → Tail z (x ∷ s) (open_in (steps (cond a InCode (cond b (in_escape z) (in_text z))) s))
    go true b p q = subst (λ (x : ℕ). Tail z (x ∷ s) (open_in (steps InCode s))) (sym (eqb-true x (quote_mark z) p)) (ends [] s Quoted.nothing k)
    go false true p q = subst (λ (x : ℕ). Tail z (x ∷ s) (open_in (steps (in_escape z) s))) (sym (eqb-true x 92 q)) e
    go false false p q = tail_byte z x p q t

mutual
  pub code_found : (s : Bytes) → Code s (open_in (steps InCode s))
  code_found [] = Code.nothing
  code_found (x ∷ s) = go (eqb x 47) refl (slash_found s) (code_found s) (literal_found s double) (literal_found s single)
    where
      go : (a : Bool) → eqb x 47 ≡ a → Code (47 ∷ s) (open_in (steps Slash s)) → Code s (open_in (steps InCode s))
          → Tail double s (open_in (steps Text s)) → Tail single s (open_in (steps Character s))
          → Code (x ∷ s) (open_in (steps (cond a Slash (cond (eqb x 34) Text (cond (eqb x 39) Character InCode))) s))
      go true p h k d t = subst (λ (x : ℕ). Code (x ∷ s) (open_in (steps Slash s))) (sym (eqb-true x 47 p)) h
      go false p h k d t = no_slash x s p k d t

  slash_found : (s : Bytes) → Code (47 ∷ s) (open_in (steps Slash s))
  slash_found [] = divide refl refl Code.nothing
  slash_found (x ∷ s) = after_slash x s (code_found s) (block_found s) (literal_found s double) (literal_found s single)

  block_found : (s : Bytes) → Scanned true s (open_in (steps Block s))
  block_found [] = still_open refl
  block_found (x ∷ s) = within_comment x s (block_found s) (star_found s)

  star_found : (s : Bytes) → Scanned true (42 ∷ s) (open_in (steps Star s))
  star_found [] = still_open refl
  star_found (x ∷ s) = after_star x s (code_found s) (block_found s) (star_found s)

  literal_found : (s : Bytes) (z : Quote) → Tail z s (open_in (steps (in_text z) s))
  literal_found [] z = subst (λ (b : Bool). Tail z [] b) (sym (shut_literal z)) (runs_on [] Quoted.nothing)
  literal_found (x ∷ s) z = after_quote z x s (code_found s) (literal_found s z) (escape_found s z)

  escape_found : (s : Bytes) (z : Quote) → Tail z (92 ∷ s) (open_in (steps (in_escape z) s))
  escape_found [] z = subst (λ (b : Bool). Tail z (92 ∷ []) b) (sym (shut_escape z)) (runs_out [] Quoted.nothing)
  escape_found (x ∷ s) z = subst (λ (m : Mode). Tail z (92 ∷ x ∷ s) (open_in (steps m s))) (sym (step_escape z x)) (tail_escape z x (literal_found s z))

pub scanned_found : (c : Bool) (s : Bytes) → Scanned c s (open_after c s)
scanned_found true s = block_found s
scanned_found false s = from_code (code_found s)

pub law : (c : Bool) (s : Bytes) (r : Bool) → r ≡ open_after c s → Scanned c s r
law c s r e = subst (λ (b : Bool). Scanned c s b) (sym e) (scanned_found c s)

pub only : {c : Bool} {s : Bytes} {b : Bool} (r : Bool) → r ≡ open_after c s → Scanned c s b → b ≡ r
only r e k = sym (scanned_open k) ∙ sym e

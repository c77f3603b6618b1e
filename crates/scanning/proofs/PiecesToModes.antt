-- From the pieces of a line to the modes: each piece takes the scanner where the law says. Assumes nothing.
--   in_text z, in_escape z   the modes inside a literal, and behind a backslash in it
--   in_line                a line comment goes to the line's end
--   in_block, in_star      bytes without `*/` keep a comment open, behind a `*` of it too where no `/` comes first
--   step_literal, step_escape, step_backslash, step_end, step_start   single steps at a literal
--   in_literal             behind the inside of a literal the scanner is still in that literal
--   code_open, scanned_open  what the law says is open after a line is what the modes say
use Rattle.std.proofs.Common.{◌≡◌, ℕ, Bool, true, false, cond, not, ◌&&◌, eqb, [], ◌∷◌, ◌++◌, sym, refl, ap, ◌∙◌, subst, ap₂, append-nil}
use Rattle.std.proofs.lemmas.Bool.{and_parts, not-true}
use Rattle.scanning.specs.declared.Mode.{Mode}
use Rattle.scanning.specs.declared.Mode.TheVariants.{Code as InCode, Slash, Block, Star, Line, Text, TextEscape, Character, CharacterEscape}
use Rattle.scanning.specs.Bytes.{Bytes}
use Rattle.scanning.specs.Modes.{step, steps, open_in, open_after}
use Rattle.scanning.specs.Pieces.{Quote, double, single, quote_mark, Quoted, escape, begins, free, Code, divide, line_comment, comment, open_comment, literal, unclosed_literal, unclosed_escape, Scanned, from_code, closed, still_open}

abbrev pub in_text : Quote → Mode
in_text double = Text
in_text single = Character

abbrev pub in_escape : Quote → Mode
in_escape double = TextEscape
in_escape single = CharacterEscape

pub in_line : (s : Bytes) → steps Line s ≡ Line
in_line [] = refl
in_line (x ∷ s) = in_line s

-- In a comment before t: what holds at t in both modes of the comment holds from the comment's bytes on.
module _ (t : Bytes) (P : Mode → Type 0) (starred : P (steps Star t)) (entered : P (steps Block t)) where
  next : (a : Bool) (c : Bytes) → (not (a && begins 47 c) && free c) ≡ true → (free c ≡ true → P (steps Block (c ++ t)))
      → (begins 47 c ≡ false → free c ≡ true → P (steps Star (c ++ t))) → P (steps (cond a Star Block) (c ++ t))
  next true c f k s = let p = and_parts (not (begins 47 c)) (free c) f in s (not-true (begins 47 c) p.0) p.1
  next false c f k s = k f

  mutual
    pub in_block : (c : Bytes) → free c ≡ true → P (steps Block (c ++ t))
    in_block [] f = entered
    in_block (x ∷ c) f = next (eqb x 42) c f (in_block c) (in_star c)

    pub in_star : (c : Bytes) → begins 47 c ≡ false → free c ≡ true → P (steps Star (c ++ t))
    in_star [] n f = starred
    in_star (x ∷ c) n f =
        subst (λ (a : Bool). P (steps (cond a InCode (cond (eqb x 42) Star Block)) (c ++ t))) (sym n) (next (eqb x 42) c f (in_block c) (in_star c))

-- a comment that ends, and one that does not
ends : (c s : Bytes) (b : Bool) → free c ≡ true → open_in (steps InCode s) ≡ b → open_in (steps Block (c ++ 42 ∷ 47 ∷ s)) ≡ b
ends c s b f k = in_block (42 ∷ 47 ∷ s) (λ m. open_in m ≡ b) k k c f

stays : (c : Bytes) → free c ≡ true → open_in (steps Block c) ≡ true
stays c f = subst (λ (s : Bytes). open_in (steps Block s) ≡ true) (append-nil c) (in_block [] (λ m. open_in m ≡ true) refl refl c f)

pub step_literal : (z : Quote) (x : ℕ) → step (in_text z) x ≡ cond (eqb x (quote_mark z)) InCode (cond (eqb x 92) (in_escape z) (in_text z))
step_literal double x = refl
step_literal single x = refl

pub step_escape : (z : Quote) (x : ℕ) → step (in_escape z) x ≡ in_text z
step_escape double x = refl
step_escape single x = refl

pub step_backslash : (z : Quote) → step (in_text z) 92 ≡ in_escape z
step_backslash double = refl
step_backslash single = refl

pub step_end : (z : Quote) → step (in_text z) (quote_mark z) ≡ InCode
step_end double = refl
step_end single = refl

pub step_start : (z : Quote) → step InCode (quote_mark z) ≡ in_text z
step_start double = refl
step_start single = refl

pub in_literal : (z : Quote) {q : Bytes} → Quoted z q → (t : Bytes) → steps (in_text z) (q ++ t) ≡ steps (in_text z) t
in_literal z Quoted.nothing t = refl
in_literal z (Quoted.byte {x = x} {q = q} n m k) t =
    ap (λ (w : Mode). steps w (q ++ t)) (step_literal z x ∙ ap₂ (λ (a b : Bool). cond a InCode (cond b (in_escape z) (in_text z))) n m) ∙ in_literal z k t
in_literal z (escape {x = x} {q = q} k) t =
    ap (λ (w : Mode). steps (step w x) (q ++ t)) (step_backslash z) ∙ ap (λ (w : Mode). steps w (q ++ t)) (step_escape z x) ∙ in_literal z k t

-- no block comment is open inside a literal
pub shut_literal : (z : Quote) → open_in (in_text z) ≡ false
shut_literal double = refl
shut_literal single = refl

pub shut_escape : (z : Quote) → open_in (in_escape z) ≡ false
shut_escape double = refl
shut_escape single = refl

-- behind a slash that begins no comment
past_slash : (s : Bytes) → begins 47 s ≡ false → begins 42 s ≡ false → open_in (steps Slash s) ≡ open_in (steps InCode s)
past_slash [] n m = refl
past_slash (x ∷ s) n m =
    ap₂ (λ (a b : Bool). open_in (steps (cond a Block (cond b Line (cond (eqb x 34) Text (cond (eqb x 39) Character InCode)))) s)) m n
    ∙ sym (ap (λ (b : Bool). open_in (steps (cond b Slash (cond (eqb x 34) Text (cond (eqb x 39) Character InCode))) s)) n)

pub code_open : {s : Bytes} {b : Bool} → Code s b → open_in (steps InCode s) ≡ b
code_open Code.nothing = refl
code_open (Code.byte {x = x} {s = s} n p q k) =
    ap₂ (λ (a b : Bool). open_in (steps (cond a Slash (cond b Text (cond (eqb x 39) Character InCode))) s)) n p
    ∙ ap (λ (a : Bool). open_in (steps (cond a Character InCode) s)) q ∙ code_open k
code_open (divide {s = s} n m k) = past_slash s n m ∙ code_open k
code_open (line_comment {s = s}) = ap open_in (in_line s)
code_open (comment c s {b = b} f k) = ends c s b f (code_open k)
code_open (open_comment {c = c} f) = stays c f
code_open (literal z q s k j) =
    ap (λ (m : Mode). open_in (steps m (q ++ quote_mark z ∷ s))) (step_start z) ∙ ap open_in (in_literal z k (quote_mark z ∷ s))
    ∙ ap (λ (m : Mode). open_in (steps m s)) (step_end z) ∙ code_open j
code_open (unclosed_literal z q k) =
    ap (λ (m : Mode). open_in (steps m q)) (step_start z) ∙ ap (λ (w : Bytes). open_in (steps (in_text z) w)) (sym (append-nil q))
    ∙ ap open_in (in_literal z k []) ∙ shut_literal z
code_open (unclosed_escape z q k) =
    ap (λ (m : Mode). open_in (steps m (q ++ 92 ∷ []))) (step_start z) ∙ ap open_in (in_literal z k (92 ∷ [])) ∙ ap open_in (step_backslash z) ∙ shut_escape z

pub scanned_open : {c : Bool} {s : Bytes} {b : Bool} → Scanned c s b → open_after c s ≡ b
scanned_open (from_code k) = code_open k
scanned_open (closed c s {b = b} f k) = ends c s b f (code_open k)
scanned_open (still_open {c = c} f) = stays c f

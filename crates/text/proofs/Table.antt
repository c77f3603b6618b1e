-- A table of classes is right if one test over all its entries says so, and each lookup then has the class of its byte. Assumes nothing.
--   code x         a number for each class, from which `decoded` has the class back
--   right i xs     the entries of xs, counted from i, are the classes of their places
--   lookup         what a right table holds at k
use Rattle.std.proofs.Common.{◌≡◌, ℕ, zero, suc, ◌+◌, ◌<◌, Bool, true, cond, ◌&&◌, eqb, List, [], ◌∷◌, length, get_or, sym, refl, ap, ◌∙◌, arith}
use Rattle.std.proofs.lemmas.Bool.{eqb-true, and_parts}
use Rattle.text.specs.declared.Class.{Class}
use Rattle.text.specs.declared.Class.TheVariants.{Letter, Digit, Blank, Mark, Other}
use Rattle.text.specs.Classes.{class_of}

abbrev code : Class → ℕ
code Letter = 0
code Digit = 1
code Blank = 2
code Mark = 3
code Other = 4

decoded : ℕ → Class
decoded n = cond (eqb n 0) Letter (cond (eqb n 1) Digit (cond (eqb n 2) Blank (cond (eqb n 3) Mark Other)))

decoded_code : (x : Class) → decoded (code x) ≡ x
unfolding decoded
decoded_code Letter = refl
decoded_code Digit = refl
decoded_code Blank = refl
decoded_code Mark = refl
decoded_code Other = refl

same_code : (x y : Class) → eqb (code x) (code y) ≡ true → x ≡ y
same_code x y e = sym (decoded_code x) ∙ ap decoded (eqb-true (code x) (code y) e) ∙ decoded_code y

abbrev pub right : ℕ → List Class → Bool
right i [] = true
right i (x ∷ xs) = eqb (code x) (code (class_of i)) && right (suc i) xs

from : (xs : List Class) (i : ℕ) → right i xs ≡ true → (k : ℕ) → k < length xs → get_or xs k Letter ≡ class_of (i + k)
from [] i t k h = absurd (omega arith)
from (x ∷ xs) i t zero h =
    let e : i + 0 ≡ i = omega arith in
    same_code x (class_of i) (and_parts _ _ t).0 ∙ ap class_of (sym e)
from (x ∷ xs) i t (suc k) h =
    let e : suc i + k ≡ i + suc k = omega arith in
    from xs (suc i) (and_parts (eqb (code x) (code (class_of i))) (right (suc i) xs) t).1 k (omega arith) ∙ ap class_of e

pub lookup : (xs : List Class) → right 0 xs ≡ true → (n : ℕ) → length xs ≡ n → (k : ℕ) → k < n → get_or xs k Letter ≡ class_of k
lookup xs t n l k h = let e : 0 + k ≡ k = omega arith in from xs 0 t k (omega arith) ∙ ap class_of e

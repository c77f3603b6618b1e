-- The answers that need no recursion.
use Rattle.std.proofs.Common.{◌≡◌, ℕ, ◌<◌, ◌≤◌, Bool, true, false, cond, not, ◌&&◌, ◌||◌, eqb, List, Some, None, Option, sym, refl, ap, ◌∙◌, subst, ⊎_elim, arith}
use Rattle.std.proofs.lemmas.Bool.{eqb-true, eqb-false, or_cases, or_parts}
use Rattle.stores.specs.declared.connective.Connective.{Connective}
use Rattle.stores.specs.declared.connective.Connective.TheVariants.{Both, Either, Less}
use Rattle.cells.specs.Cells.{Cell, mean}
use Rattle.operations.specs.Ops.{meaning, known_of}
use Rattle.cells.proofs.Steps.{mean_none, mean_all}

-- what a known answer is
pub record Known (o : Connective) (a b x : ℕ) : Type 0 where
  pub bound : (m : ℕ) → 2 ≤ m → a < m → b < m → x < m
  pub is : (cs : List Cell) (k : ℕ) → meaning o (mean cs a k) (mean cs b k) ≡ mean cs x k

abbrev Shortcut : Connective → ℕ → ℕ → Option ℕ → Type 0
Shortcut o a b (Some x) = Known o a b x
Shortcut o a b None = (0 < a) × (2 ≤ b)

-- both ways of a test
split : (t : Bool) (P : Option ℕ → Type 0) (x y : Option ℕ) → (t ≡ true → P x) → (t ≡ false → P y) → P (cond t x y)
split true P x y f g = f refl
split false P x y f g = g refl

laws_and : (x : Bool) → ((x && false) ≡ false) × ((x && true) ≡ x) × ((x && x) ≡ x) × ((x || true) ≡ true) × ((x || false) ≡ x) × ((x || x) ≡ x) × ((x && not x) ≡ false)
laws_and true = (refl, refl, refl, refl, refl, refl, refl)
laws_and false = (refl, refl, refl, refl, refl, refl, refl)

pub shortcut : (o : Connective) (a b : ℕ) → Shortcut o a b (known_of o a b)
shortcut Both a b =
    split (eqb a 0 || eqb b 0) (Shortcut Both a b) _ _
    (λ t. record {
      bound = λ m h ha hb. omega arith;
      is = λ cs k.
          ⊎_elim
          (λ (e : eqb a 0 ≡ true).
          ap (λ (y : ℕ). mean cs y k && mean cs b k) (eqb-true a 0 e) ∙ ap (λ (z : Bool). z && mean cs b k) (mean_none cs k) ∙ sym (mean_none cs k))
          (λ (e : eqb b 0 ≡ true).
          ap (λ (y : ℕ). mean cs a k && mean cs y k) (eqb-true b 0 e) ∙ ap (λ (z : Bool). mean cs a k && z) (mean_none cs k) ∙ (laws_and (mean cs a k)).0 ∙ sym (mean_none cs k))
          (or_cases (eqb a 0) (eqb b 0) t);
    })
    (λ t. split (eqb a 1 || eqb a b) (Shortcut Both a b) _ _
    (λ u. record {
      bound = λ m h ha hb. hb;
      is = λ cs k.
          ⊎_elim
          (λ (e : eqb a 1 ≡ true). ap (λ (y : ℕ). mean cs y k && mean cs b k) (eqb-true a 1 e) ∙ ap (λ (z : Bool). z && mean cs b k) (mean_all cs k))
          (λ (e : eqb a b ≡ true). ap (λ (y : ℕ). mean cs y k && mean cs b k) (eqb-true a b e) ∙ (laws_and (mean cs b k)).2)
          (or_cases (eqb a 1) (eqb a b) u);
    })
    (λ u. split (eqb b 1) (Shortcut Both a b) _ _
    (λ v. record {
      bound = λ m h ha hb. ha;
      is = λ cs k.
          ap (λ (y : ℕ). mean cs a k && mean cs y k) (eqb-true b 1 v) ∙ ap (λ (z : Bool). mean cs a k && z) (mean_all cs k) ∙ (laws_and (mean cs a k)).1;
    })
    (λ v.
    let p = or_parts (eqb a 0) (eqb b 0) t in
    let q = eqb-false a 0 p.0 in let r = eqb-false b 0 p.1 in let s = eqb-false b 1 v in
    (omega arith, omega arith))))
shortcut Either a b =
    split (eqb a 1 || eqb b 1) (Shortcut Either a b) _ _
    (λ t. record {
      bound = λ m h ha hb. omega arith;
      is = λ cs k.
          ⊎_elim
          (λ (e : eqb a 1 ≡ true).
          ap (λ (y : ℕ). mean cs y k || mean cs b k) (eqb-true a 1 e) ∙ ap (λ (z : Bool). z || mean cs b k) (mean_all cs k) ∙ sym (mean_all cs k))
          (λ (e : eqb b 1 ≡ true).
          ap (λ (y : ℕ). mean cs a k || mean cs y k) (eqb-true b 1 e) ∙ ap (λ (z : Bool). mean cs a k || z) (mean_all cs k) ∙ (laws_and (mean cs a k)).3 ∙ sym (mean_all cs k))
          (or_cases (eqb a 1) (eqb b 1) t);
    })
    (λ t. split (eqb a 0 || eqb a b) (Shortcut Either a b) _ _
    (λ u. record {
      bound = λ m h ha hb. hb;
      is = λ cs k.
          ⊎_elim
          (λ (e : eqb a 0 ≡ true). ap (λ (y : ℕ). mean cs y k || mean cs b k) (eqb-true a 0 e) ∙ ap (λ (z : Bool). z || mean cs b k) (mean_none cs k))
          (λ (e : eqb a b ≡ true). ap (λ (y : ℕ). mean cs y k || mean cs b k) (eqb-true a b e) ∙ (laws_and (mean cs b k)).5)
          (or_cases (eqb a 0) (eqb a b) u);
    })
    (λ u. split (eqb b 0) (Shortcut Either a b) _ _
    (λ v. record {
      bound = λ m h ha hb. ha;
      is = λ cs k.
          ap (λ (y : ℕ). mean cs a k || mean cs y k) (eqb-true b 0 v) ∙ ap (λ (z : Bool). mean cs a k || z) (mean_none cs k) ∙ (laws_and (mean cs a k)).4;
    })
    (λ v.
    let p = or_parts (eqb a 1) (eqb b 1) t in let w = or_parts (eqb a 0) (eqb a b) u in
    let q = eqb-false a 0 w.0 in let r = eqb-false b 0 v in let s = eqb-false b 1 p.1 in
    (omega arith, omega arith))))
shortcut Less a b =
    split (eqb a 0 || (eqb b 1 || eqb a b)) (Shortcut Less a b) _ _
    (λ t. record {
      bound = λ m h ha hb. omega arith;
      is = λ cs k.
          ⊎_elim
          (λ (e : eqb a 0 ≡ true).
          ap (λ (y : ℕ). mean cs y k && not (mean cs b k)) (eqb-true a 0 e) ∙ ap (λ (z : Bool). z && not (mean cs b k)) (mean_none cs k) ∙ sym (mean_none cs k))
          (λ (f : (eqb b 1 || eqb a b) ≡ true).
          ⊎_elim
          (λ (e : eqb b 1 ≡ true).
          ap (λ (y : ℕ). mean cs a k && not (mean cs y k)) (eqb-true b 1 e) ∙ ap (λ (z : Bool). mean cs a k && not z) (mean_all cs k)
          ∙ (laws_and (mean cs a k)).0 ∙ sym (mean_none cs k))
          (λ (e : eqb a b ≡ true).
          ap (λ (y : ℕ). mean cs y k && not (mean cs b k)) (eqb-true a b e) ∙ (laws_and (mean cs b k)).6 ∙ sym (mean_none cs k))
          (or_cases (eqb b 1) (eqb a b) f))
          (or_cases (eqb a 0) (eqb b 1 || eqb a b) t);
    })
    (λ t. split (eqb b 0) (Shortcut Less a b) _ _
    (λ v. record {
      bound = λ m h ha hb. ha;
      is = λ cs k.
          ap (λ (y : ℕ). mean cs a k && not (mean cs y k)) (eqb-true b 0 v) ∙ ap (λ (z : Bool). mean cs a k && not z) (mean_none cs k) ∙ (laws_and (mean cs a k)).1;
    })
    (λ v.
    let p = or_parts (eqb a 0) (eqb b 1 || eqb a b) t in let w = or_parts (eqb b 1) (eqb a b) p.1 in
    let q = eqb-false a 0 p.0 in let r = eqb-false b 0 v in let s = eqb-false b 1 w.0 in
    (omega arith, omega arith)))

pub known_right : (o : Connective) (a b x : ℕ) → known_of o a b ≡ Some x → Known o a b x
known_right o a b x e = subst (Shortcut o a b) e (shortcut o a b)

pub known_none : (o : Connective) (a b : ℕ) → known_of o a b ≡ None → (0 < a) × (2 ≤ b)
known_none o a b e = subst (Shortcut o a b) e (shortcut o a b)

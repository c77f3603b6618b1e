-- One more switch judged.
use Rattle.std.proofs.Common.{◌≡◌, ℕ, ◌+◌, ◌-◌, ◌^◌, ◌<◌, min, ◌≤◌, Bool, true, false, ◌&&◌, List, [], ◌∷◌, ◌++◌, length, get_or, Some, Ok, Err, Option, Result, sym, refl, ap, ◌∙◌, subst, ⊎_elim, arith, length-append}
use mathlib.Core.Path.{fun_ext}
use lib.ListN.{get_or-append}
use lib.Seq.{get_or-append_seam}
use Rattle.std.proofs.lemmas.Bool.{cases_lt}
use Rattle.std.specs.Result.{OkIff, result_unwrap_or}
use Rattle.std.proofs.lemmas.Result.{OkIff-at_ok, OkIff-at_err}
use Rattle.stores.specs.Model.{Model, Consistent}
use Rattle.stores.specs.Making.{new_model}
use Rattle.stores.specs.Sets.{Set, ◌∩◌, Lowest, LowestIf}
use Rattle.standing.specs.declared.verdict.Standing.{Standing}
use Rattle.standing.specs.declared.verdict.Standing.TheVariants.{Free}
use Rattle.standing.specs.Standing.{Stands}
use Rattle.judging.specs.Judged.{AllStand, Judged}

pub stand_more : (A : Set) (n : ℕ) (vs ws : List Standing) (v : Standing) → ws ≡ vs ++ v ∷ [] → AllStand A n vs → Stands A n v → AllStand A (n + 1) ws
stand_more A n vs ws v e h s = (
  ap length e ∙ (let z : length (vs ++ v ∷ []) ≡ n + 1 = omega (arith, length-append vs (v ∷ []), h.0) in z),
  λ i lt. subst (λ (l : List Standing). Stands A i (get_or l i Free)) (sym e) (⊎_elim
      (λ (low : i < length vs). subst (Stands A i) (sym (get_or-append vs (v ∷ []) Free i low)) (h.1 i (omega (arith, low, h.0))))
      (λ (high : length vs ≤ i).
      let at : length vs ≡ i = omega (arith, high, lt, h.0) in
      let is : n ≡ i = omega (arith, at, h.0) in
      subst (λ (j : ℕ). Stands A i (get_or (vs ++ v ∷ []) j Free)) at (subst (Stands A i) (sym (get_or-append_seam vs v [] Free)) (subst (λ (j : ℕ). Stands A j v) is s)))
      (cases_lt i (length vs))),
)

-- what a layer over the rules' set allows
meet_within : (a s : Bool) → (a && (a && s)) ≡ (a && s)
meet_within true s = refl
meet_within false s = refl

pub layer_allows : (A A₁ R L sat : Set) → A₁ ≡ A → ((k : ℕ) → R k ≡ (A k && sat k)) → L ≡ A₁ ∩ R → L ≡ (λ k. A k && sat k)
layer_allows A A₁ R L sat e r l = fun_ext (λ k. (λ i. l i k) ∙ ap (λ (b : Bool). b && R k) (λ i. e i k) ∙ ap (λ (b : Bool). A k && b) (r k) ∙ meet_within (A k) (sat k))

-- judged over a layer, whose allowed set and number of switches are known
pub judged : (A L L' T : Set) (n m k : ℕ) (vs : List Standing) (o : Option ℕ) → L ≡ A → m ≡ n → L' ≡ L → T ≡ L' → AllStand L m vs → LowestIf T o → o ≡ Some k → Judged A n vs k
judged A L L' T n m k vs o e f g h stand low is = (
  subst (λ (j : ℕ). AllStand A j vs) f (subst (λ (X : Set). AllStand X m vs) e stand),
  subst (λ (X : Set). Lowest X k) (h ∙ g ∙ e) (subst (LowestIf T) is low),
)

pub judged_by : (A B : Set) (n m k : ℕ) (vs : List Standing) → A ≡ B → n ≡ m → Judged A n vs k → Judged B m vs k
judged_by A B n m k vs e f h = subst (λ (j : ℕ). Judged B j vs k) f (subst (λ (X : Set). Judged X n vs k) e h)

-- how many switches a text declares, as far as numbers go
pub counted : {E : Type 0} (r : Result ℕ E) (n c : ℕ) → OkIff r (n < 2 ^ 32) n → c ≡ result_unwrap_or r (2 ^ 32 - 1) → c ≡ min n (2 ^ 32 - 1)
counted {E} (Ok x) n c h e =
    let w : (n < 2 ^ 32) × (x ≡ n) = OkIff-at_ok {E = E} (Ok x) (n < 2 ^ 32) n x h refl in
    omega arith
counted {E} (Err x) n c h e =
    let w : n < 2 ^ 32 → ⊥ = OkIff-at_err (Err x) (n < 2 ^ 32) n x h refl in
    omega arith

-- a store that was made has few switches, so that all were counted
pub all_counted : (m : Model) (room n c : ℕ) → Consistent m → m ≡ new_model c room → c ≡ min n (2 ^ 32 - 1) → c ≡ n
all_counted m room n c ok e h =
    let k : m.n ≡ c = ap (λ (x : Model). x.n) e in
    omega (arith, ok.few, k, h)

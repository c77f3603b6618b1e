-- The ways that finding out how a switch stands can go, and what each says of the allowed configurations.
use Rattle.std.proofs.Common.{◌≡◌, ℕ, zero, suc, ◌^◌, ◌<◌, ◌≤◌, Bool, true, false, cond, not, ◌&&◌, ◌⊎◌, length, IfOk, Ok, Err, Result, sym, refl, ap, ◌∙◌, subst, inl, inr, ⊎_elim, arith}
use Rattle.std.proofs.lemmas.Bool.{cases_Bool, cases_eq, cases_lt}
use Rattle.stores.specs.Sets.{Set, Empty, ◌∖◌, on}
use Rattle.stores.specs.Model.{Model, set_at, Consistent}
use Rattle.stores.specs.Outcome.{Op, switch, less, Accepted}
use Rattle.stores.specs.Steps.{done, ask, test, TellsEmpty, Runs}
use Rattle.stores.specs.declared.fault.StoreFault.{StoreFault}
use Rattle.stores.proofs.Models.{set_before}
use Rattle.stores.proofs.Runs.{ok_same, ok_not_err}
use Rattle.standing.specs.declared.verdict.Standing.{Standing}
use Rattle.standing.specs.declared.verdict.Standing.TheVariants.{Free, On, Off}
use Rattle.standing.specs.Standing.{Stands, asking}

module _ {S : Type 0} (model : S → Model) (rollback : S → ℕ → S) (need : S → Op → ℕ) (top i : ℕ) where
  pub always_on : (s s₁ s₂ : S) (x y : ℕ) → Accepted model rollback s s₁ (need s (switch i)) (switch i) x → (Empty (set_at (model s₁) x) → ⊥)
      → Accepted model rollback s₁ s₂ (need s₁ (less top x)) (less top x) y → Empty (set_at (model s₂) y) → Runs model rollback need (asking top i) s s₂ (Ok On)
  always_on s s₁ s₂ x y a v b w = inr (x, s₁, a, (false, a.within, v, inr (y, s₂, b, (true, b.within, w, (refl, refl)))))

  pub either_way : (s s₁ s₂ : S) (x y : ℕ) → Accepted model rollback s s₁ (need s (switch i)) (switch i) x → (Empty (set_at (model s₁) x) → ⊥)
      → Accepted model rollback s₁ s₂ (need s₁ (less top x)) (less top x) y → (Empty (set_at (model s₂) y) → ⊥) → Runs model rollback need (asking top i) s s₂ (Ok Free)
  either_way s s₁ s₂ x y a v b w = inr (x, s₁, a, (false, a.within, v, inr (y, s₂, b, (false, b.within, w, (refl, refl)))))

-- a look at all configurations below n
look : (f : Set) (n : ℕ) → ((k : ℕ) × (f k ≡ true)) ⊎ ((k : ℕ) → k < n → f k ≡ false)
look f zero = inr (λ k h. absurd (omega arith))
look f (suc n) = ⊎_elim inl (λ below. ⊎_elim (λ (t : f n ≡ true). inl (n, t)) (λ (u : f n ≡ false). inr (λ k h. last k below u h)) (cases_Bool (f n))) (look f n)
  where
    last : (k : ℕ) → ((j : ℕ) → j < n → f j ≡ false) → f n ≡ false → k < suc n → f k ≡ false
    last k below u h = ⊎_elim (λ (e : k ≡ n). ap f e ∙ u) (λ (ne : k ≡ n → ⊥). below k (omega (arith, ne, h))) (cases_eq k n)

-- a set that is not empty has a configuration, where all of its lie below n
one_of : (f : Set) (n : ℕ) → ((k : ℕ) → f k ≡ true → k < n) → (Empty f → ⊥) → (k : ℕ) × (f k ≡ true)
one_of f n bound some = ⊎_elim (λ w. w) (λ below. absurd (some (λ k. outside k below))) (look f n)
  where
    outside : (k : ℕ) → ((j : ℕ) → j < n → f j ≡ false) → f k ≡ false
    outside k below = ⊎_elim (λ (lt : k < n). below k lt) (λ (ge : n ≤ k). ⊎_elim (λ (t : f k ≡ true). absurd (omega (arith, bound k t, ge))) (λ (u : f k ≡ false). u) (cases_Bool (f k))) (cases_lt k n)

and_both : (x y : Bool) → (x && y) ≡ true → (x ≡ true) × (y ≡ true)
and_both true y h = (refl, h)
and_both false y h = cc

off_by : (x y : Bool) → (x && y) ≡ false → x ≡ true → y ≡ false
off_by true y h e = h
off_by false y h e = cc

on_by : (x y : Bool) → (x && not (x && y)) ≡ false → x ≡ true → y ≡ true
on_by true true h e = refl
on_by true false h e = sym h
on_by false y h e = cc

lacks_by : (x y : Bool) → (x && not (x && y)) ≡ true → (x ≡ true) × (y ≡ false)
lacks_by true true h = cc
lacks_by true false h = (refl, refl)
lacks_by false y h = cc

module _ {S : Type 0} (model : S → Model) (rollback : S → ℕ → S) (need : S → Op → ℕ) (top i : ℕ) (s : S) where
  given : (v w : Standing) → ◌≡◌ {A = Result Standing StoreFault} (Ok v) (Ok w) → Stands (model s).allowed i w → Stands (model s).allowed i v
  given v w e h = subst (λ (z : Standing). Stands (model s).allowed i z) (sym (ok_same {F = StoreFault} e)) h

  module _ (ok : Consistent (model s)) (below : top < length (model s).held) (is : set_at (model s) top ≡ (model s).allowed) where
    second : (s₁ s₂ : S) (x : ℕ) (v : Standing) → Accepted model rollback s s₁ (need s (switch i)) (switch i) x → (Empty (set_at (model s₁) x) → ⊥)
        → Runs model rollback need (ask (less top x) (λ f. f) (λ y. test y (λ all. cond all (done On) (done Free)))) s₁ s₂ (Ok v) → Stands (model s).allowed i v
    second s₁ s₂ x v a some h = ⊎_elim
        (λ f. absurd (ok_not_err {F = StoreFault} f.2))
        (λ q.
        let up : set_at (model s₁) top ≡ (model s).allowed = set_before a.grown.appended top below ∙ is in
        let set : set_at (model q.1) q.0 ≡ (λ k. (model s).allowed k && not ((model s).allowed k && on i k)) =
        q.2.set ∙ (λ j. up j ∖ a.set j) in
        by_test q.3.0 (set_at (model q.1) q.0) set q.3.2 q.1 q.3.3)
        h
      where
        by_test : (b : Bool) (y : Set) → y ≡ (λ k. (model s).allowed k && not ((model s).allowed k && on i k)) → TellsEmpty y b → (s₃ : S)
            → Runs {F = StoreFault} model rollback need (cond b (done On) (done Free)) s₃ s₂ (Ok v) → Stands (model s).allowed i v
        by_test true y e t s₃ r = given v On r.0 (λ k al. on_by ((model s).allowed k) (on i k) ((λ j. sym e j k) ∙ t k) al)
        by_test false y e t s₃ r =
            let w = one_of (set_at (model s₁) x) (2 ^ (model s).n) (λ k m. ok.within k (and_both ((model s).allowed k) (on i k) ((λ j. sym a.set j k) ∙ m)).0) some in
            let u = one_of y (2 ^ (model s).n) (λ k m. ok.within k (lacks_by ((model s).allowed k) (on i k) ((λ j. sym e j k) ∙ m)).0) t in
            let p = and_both ((model s).allowed w.0) (on i w.0) ((λ j. sym a.set j w.0) ∙ w.1) in
            let q = lacks_by ((model s).allowed u.0) (on i u.0) ((λ j. sym e j u.0) ∙ u.1) in
            given v Free r.0 ((w.0, p.0, p.1), (u.0, q.0, q.1))

    stands_ok : (s₂ : S) (v : Standing) → Runs model rollback need (asking top i) s s₂ (Ok v) → Stands (model s).allowed i v
    stands_ok s₂ v h = ⊎_elim
        (λ f. absurd (ok_not_err {F = StoreFault} f.2))
        (λ q. by_test q.1 q.0 q.2 q.3.0 q.3.2 q.3.3)
        h
      where
        by_test : (s₁ : S) (x : ℕ) → Accepted model rollback s s₁ (need s (switch i)) (switch i) x → (b : Bool) → TellsEmpty (set_at (model s₁) x) b
            → Runs model rollback need (cond b (done Off) (ask (less top x) (λ f. f) (λ y. test y (λ all. cond all (done On) (done Free))))) s₁ s₂ (Ok v) → Stands (model s).allowed i v
        by_test s₁ x a true t r = given v Off r.0 (λ k al. off_by ((model s).allowed k) (on i k) ((λ j. sym a.set j k) ∙ t k) al)
        by_test s₁ x a false t r = second s₁ s₂ x v a t r

    pub stands : (s₂ : S) (r : Result Standing StoreFault) → Runs model rollback need (asking top i) s s₂ r → IfOk r (Stands (model s).allowed i)
    stands s₂ (Ok v) h = stands_ok s₂ v h
    stands s₂ (Err f) h = tt

-- Operations asked of a store in their order, each on the numbers that those before it answered. Assumes nothing.
--   Steps A F            what a call asks: `done a` answers a, `fail f` refuses with f; `ask op blame next` asks an operation, a refusal of
--                        which is the call's refusal, as `blame` tells it; `test a next` goes on by whether the set held under a is empty
--   then p k             p, and then what k makes of its answer
--   blamed g p           p, with each refusal f told as g f
--   asked op blame       one operation, whose number is the answer
--   Runs p s s' r        from the store s the steps p end at s' with r: the first refusal ends the run, else every operation was accepted
--   Attempt p s s' r     the same for a call that gives back what it took when it is refused: s' is then s
use Rattle.std.specs.Prelude.{◌≡◌, ℕ, ◌<◌, Bool, true, false, ◌⊎◌, length, Ok, Err, Result}
use Rattle.stores.specs.Sets.{Set, Empty}
use Rattle.stores.specs.Model.{Model, set_at}
use Rattle.stores.specs.Outcome.{Op, Accepted, Refused}
use Rattle.stores.specs.declared.fault.StoreFault.{StoreFault}

pub data Steps (A F : Type 0) : Type 0 where
  done : A → Steps A F
  fail : F → Steps A F
  ask : Op → (StoreFault → F) → (ℕ → Steps A F) → Steps A F
  test : ℕ → (Bool → Steps A F) → Steps A F

abbrev pub then : {A B F : Type 0} → Steps A F → (A → Steps B F) → Steps B F
then (done a) k = k a
then (fail f) k = fail f
then (ask op blame next) k = ask op blame (λ c. then (next c) k)
then (test a next) k = test a (λ b. then (next b) k)

abbrev pub blamed : {A F G : Type 0} → (F → G) → Steps A F → Steps A G
blamed g (done a) = done a
blamed g (fail f) = fail (g f)
blamed g (ask op blame next) = ask op (λ f. g (blame f)) (λ c. blamed g (next c))
blamed g (test a next) = test a (λ b. blamed g (next b))

abbrev pub asked : {F : Type 0} → Op → (StoreFault → F) → Steps ℕ F
asked op blame = ask op blame (λ c. done c)

-- b tells whether a is empty
abbrev pub TellsEmpty : Set → Bool → Type 0
TellsEmpty a true = Empty a
TellsEmpty a false = Empty a → ⊥

abbrev pub Runs : {S A F : Type 0} → (S → Model) → (S → ℕ → S) → (S → Op → ℕ) → Steps A F → S → S → Result A F → Type 0
Runs model rollback need (done a) s s' r = (r ≡ Ok a) × (s' ≡ s)
Runs model rollback need (fail f) s s' r = (r ≡ Err f) × (s' ≡ s)
Runs {S} model rollback need (ask op blame next) s s' r =
    ((f : StoreFault) × Refused model s s (need s op) op f × (r ≡ Err (blame f)) × (s' ≡ s))
    ⊎ ((c : ℕ) × (s₁ : S) × Accepted model rollback s s₁ (need s op) op c × Runs model rollback need (next c) s₁ s' r)
Runs model rollback need (test a next) s s' r =
    (b : Bool) × (a < length (model s).held) × TellsEmpty (set_at (model s) a) b × Runs model rollback need (next b) s s' r

abbrev pub Attempt : {S A F : Type 0} → (S → Model) → (S → ℕ → S) → (S → Op → ℕ) → Steps A F → S → S → Result A F → Type 0
Attempt model rollback need p s s' (Ok a) = Runs model rollback need p s s' (Ok a)
Attempt {S} model rollback need p s s' (Err f) = (s' ≡ s) × ((s₁ : S) × Runs model rollback need p s s₁ (Err f))

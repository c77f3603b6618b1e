-- What the number that an expression is worked out to holds. Assumes nothing.
--   Denotes m c s        in the store m the number c holds exactly the set s
--   AgreesOn m T c s     the same as far as the configurations of T go
--   Within m T           every configuration of T is allowed
--   Entry m T o f        the entry o of a name stands for the configurations f that have it defined: no entry, none of T
--   Named m T look D     the entries stand for the defined names D k of every configuration k of T
--   Valued m m' look e c in the store m' the number c holds, among the configurations of any such T, those that make e true by the entries in m
use Rattle.std.specs.Prelude.{◌≡◌, ℕ, ◌<◌, true, false, length, Some, None, Option}
use Rattle.stores.specs.Sets.{Set}
use Rattle.stores.specs.Model.{Model, set_at}
use Rattle.text.specs.Tokens.{Bytes}
use Rattle.expressions.specs.Grammar.{Expr}
use Rattle.expressions.specs.Truth.{Env, truth}

pub record Denotes (m : Model) (c : ℕ) (s : Set) : Type 0 where
  pub within : c < length m.held
  pub is : (k : ℕ) → set_at m c k ≡ s k

pub record AgreesOn (m : Model) (T : Set) (c : ℕ) (s : Set) : Type 0 where
  pub within : c < length m.held
  pub is : (k : ℕ) → T k ≡ true → set_at m c k ≡ s k

abbrev pub Within : Model → Set → Type 0
Within m T = (k : ℕ) → T k ≡ true → m.allowed k ≡ true

abbrev pub Entry : Model → Set → Option ℕ → Set → Type 0
Entry m T None f = (k : ℕ) → T k ≡ true → f k ≡ false
Entry m T (Some c) f = AgreesOn m T c f

abbrev pub Named : Model → Set → (Bytes → Option ℕ) → (ℕ → Env) → Type 0
Named m T look D = (x : Bytes) → Entry m T (look x) (λ k. D k x)

abbrev pub Valued : Model → Model → (Bytes → Option ℕ) → Expr → ℕ → Type 0
Valued m m' look e c = (T : Set) (D : ℕ → Env) → Within m T → Named m T look D → AgreesOn m' T c (λ k. truth e (D k))

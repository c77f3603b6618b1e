-- Sets of configurations, each a test of a configuration. Assumes nothing.
--   empty            no configuration
--   everything n     all configurations of n switches
--   a ∩ b, a ∪ b     the intersection, the union
--   a ∖ b            a without b
--   on i             the configurations whose bit i is 1
--   Lowest a k       k is the lowest configuration of a
--   Empty a          no configuration is in a
--   LowestIf a o     o is the lowest of a, or none where a is empty
use Rattle.std.specs.Prelude.{◌≡◌, ℕ, ◌/◌, ◌%◌, ◌^◌, ◌<◌, Bool, true, false, not, ◌&&◌, ◌||◌, Some, None, Option, ◌==◌, nat_lt}

infixl 70 ◌∩◌
infixl 65 ◌∪◌
infixl 70 ◌∖◌
abbrev pub Set : Type 0
Set = ℕ → Bool

abbrev pub empty : Set
empty = λ k. false

abbrev pub everything : ℕ → Set
everything n = λ k. nat_lt k (2 ^ n)

abbrev pub ◌∩◌ : Set → Set → Set
a ∩ b = λ k. a k && b k

abbrev pub ◌∪◌ : Set → Set → Set
a ∪ b = λ k. a k || b k

abbrev pub ◌∖◌ : Set → Set → Set
a ∖ b = λ k. a k && not (b k)

abbrev pub on : ℕ → Set
on i = λ k. ((k / (2 ^ i)) % 2 == 1)

pub record Lowest (a : Set) (k : ℕ) : Type 0 where
  pub within : a k ≡ true
  pub first : (j : ℕ) → j < k → a j ≡ false

abbrev pub Empty : Set → Type 0
Empty a = (k : ℕ) → a k ≡ false

abbrev pub LowestIf : Set → Option ℕ → Type 0
LowestIf a (Some k) = Lowest a k
LowestIf a None = Empty a

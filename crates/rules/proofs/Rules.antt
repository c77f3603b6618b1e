-- The whole call over the rules.
use Rattle.std.proofs.Common.{◌≡◌, ℕ, ◌<◌, Bool, true, false, cond, ◌&&◌, eqb, List, [], ◌∷◌, length, sym, refl, ap, subst, arith, Bor, eqb-true}
use Rattle.stores.specs.Sets.{Set}
use Rattle.stores.specs.Model.{Model, set_at, Consistent}
use Rattle.evaluation.specs.Meaning.{Denotes}
use Rattle.names.specs.Names.{texts, distinct}
use Rattle.text.specs.Tokens.{Bytes}

pub length_texts : (ns : List (Bor Bytes)) → length (texts ns) ≡ length ns
length_texts [] = refl
length_texts (r ∷ ns) = ap Prim.Native.Nat.suc (length_texts ns)

-- a test that came out
pub when_true : (b : Bool) (X Y : Type 0) → true ≡ b → X → cond b X Y
when_true b X Y e x = subst (λ (t : Bool). cond t X Y) e x

-- the test of the names, told of the number of switches that the store means
pub fits_of : (ns : List Bytes) (b : Bool) (c n : ℕ) → c ≡ n → b ≡ (eqb (length ns) c && distinct ns) → b ≡ (eqb (length ns) n && distinct ns)
fits_of ns b c n e h = subst (λ (m : ℕ). b ≡ (eqb (length ns) m && distinct ns)) e h

and_first : (b c : Bool) → true ≡ (b && c) → b ≡ true
and_first true c e = refl
and_first false c e = sym e

pub one_each : (ns : List (Bor Bytes)) (n : ℕ) → true ≡ (eqb (length (texts ns)) n && distinct (texts ns)) → length (texts ns) ≡ n
one_each ns n e = eqb-true (length (texts ns)) n (and_first (eqb (length (texts ns)) n) (distinct (texts ns)) e)

-- a number below the floor
pub constant : (m : Model) (c : ℕ) (s : Set) → Consistent m → (c < m.floor) × (set_at m c ≡ s) → Denotes m c s
constant m c s ok h = record { within = omega (arith, ok.floor, h.0); is = λ k i. h.1 i k }

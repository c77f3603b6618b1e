-- Numbers in a store that has grown.
use Rattle.std.proofs.Common.{◌≡◌, ℕ, true, Some, None, Option, ◌∙◌, arith}
use Rattle.stores.specs.Sets.{Set}
use Rattle.stores.specs.Model.{Model, Appended}
use Rattle.stores.proofs.Models.{set_before}
use Rattle.text.specs.Tokens.{Bytes}
use Rattle.expressions.specs.Truth.{Env}
use Rattle.evaluation.specs.Meaning.{Denotes, AgreesOn, Within, Entry, Named}

module _ {m m' : Model} {more : ℕ} (g : Appended m m' more) where
  pub denotes_later : {c : ℕ} {s : Set} → Denotes m c s → Denotes m' c s
  denotes_later {c} {s} h = record { within = omega (arith, g.len, h.within); is = λ k. (λ i. set_before g c h.within i k) ∙ h.is k }

  pub agrees_later : {T : Set} {c : ℕ} {s : Set} → AgreesOn m T c s → AgreesOn m' T c s
  agrees_later {T} {c} {s} h = record { within = omega (arith, g.len, h.within); is = λ k t. (λ i. set_before g c h.within i k) ∙ h.is k t }

  pub within_later : {T : Set} → Within m T → Within m' T
  within_later h = λ k t. (λ i. g.same.allowed i k) ∙ h k t

  pub entry_later : (T : Set) (o : Option ℕ) (f : Set) → Entry m T o f → Entry m' T o f
  entry_later T None f h = h
  entry_later T (Some c) f h = agrees_later h

  pub named_later : (T : Set) (look : Bytes → Option ℕ) (D : ℕ → Env) → Named m T look D → Named m' T look D
  named_later T look D h = λ x. entry_later T (look x) (λ k. D k x) (h x)

pub denotes_agrees : {m : Model} {T : Set} {c : ℕ} {s : Set} → Denotes m c s → AgreesOn m T c s
denotes_agrees h = record { within = h.within; is = λ k t. h.is k }

pub agrees_same : {m : Model} {T : Set} {c : ℕ} {s u : Set} → ((k : ℕ) → T k ≡ true → s k ≡ u k) → AgreesOn m T c s → AgreesOn m T c u
agrees_same q h = record { within = h.within; is = λ k t. h.is k t ∙ q k t }

-- Which refusal of an operation is due.
use Rattle.std.proofs.Common.{◌≡◌, ℕ, ◌-◌, ◌<◌, ◌≤◌, Bool, true, false, cond, ltb, ◌⊎◌, List, length, get_or, Some, None, Option, sym, refl, ap, ◌∙◌, ⊎_elim, arith}
use Rattle.std.proofs.lemmas.Bool.{lt-ltb, le-ltb, ltb-true, ltb-false, and_parts}
use Rattle.stores.specs.Model.{Model}
use Rattle.stores.specs.Outcome.{refusal, numbers, full}
use Rattle.stores.specs.Joined.{joined}
use Rattle.stores.specs.declared.fault.StoreFault.TheVariants.{NoSwitch, NoNumber, Full}
use Rattle.bitmaps.specs.Layout.{slots}
use Rattle.bitmaps.specs.Meaning.{means}
use Rattle.bitmaps.specs.Operations.{op_of, Operands}
use Rattle.bitmaps.specs.declared.operation.Operation.{Operation}
use Rattle.stores.specs.declared.connective.Connective.{Connective}
use Rattle.stores.specs.declared.connective.Connective.TheVariants.{Both, Either, Less}
use Rattle.bitmaps.specs.declared.operation.Operation.TheVariants.{Switch, Join}
use Rattle.bitmaps.specs.Cutting.{size_means}

joined_refusal : (how : Connective) (a b : ℕ) (m : Model) → refusal m 1 (joined how a b) ≡ numbers m a b 1
joined_refusal Both a b m = refl
joined_refusal Either a b m = refl
joined_refusal Less a b m = refl

cond_none : {A : Type 0} (b : Bool) (x : Option A) (f : A) → None ≡ cond b x (Some f) → (b ≡ true) × (None ≡ x)
cond_none true x f e = (refl, e)
cond_none false x f e = absurd (let z : ◌≡◌ {A = ℕ} 0 1 = cc in omega arith)

cond_some : {A : Type 0} (b : Bool) (f : A) → None ≡ cond b (Some f) None → b ≡ false
cond_some true f e = absurd (let z : ◌≡◌ {A = ℕ} 0 1 = cc in omega arith)
cond_some false f e = refl

module _ (ws : List ℕ) where
  abbrev N : ℕ
  N = get_or ws 0 0

  abbrev C : ℕ
  C = get_or ws 1 0

  pub no_number : (how : Connective) (a b : ℕ) → (C ≤ a) ⊎ ((a < C) × (C ≤ b)) → Some NoNumber ≡ refusal (means ws) 1 (joined how a b)
  no_number how a b h = sym (joined_refusal how a b (means ws) ∙ ⊎_elim
      (λ (p : C ≤ a). rw (size_means ws, le-ltb a C p))
      (λ (p : (a < C) × (C ≤ b)). rw (size_means ws, lt-ltb a C p.0, le-ltb b C p.1))
      h)

  -- with operands in order only room can be wanting
  only_room : (o : Operation) → Operands N C o → refusal (means ws) 1 (op_of o) ≡ full (means ws) 1
  only_room (Switch i) h = ap (λ (b : Bool). cond b (full (means ws) 1) (Some NoSwitch)) (lt-ltb i N h)
  only_room (Join how a b) h = joined_refusal how a b (means ws) ∙ rw (size_means ws, lt-ltb a C h.0, lt-ltb b C h.1)

  pub no_room : (o : Operation) → Operands N C o → slots (length ws) N ≤ C → Some Full ≡ refusal (means ws) 1 (op_of o)
  no_room o ok h = sym (only_room o ok ∙ ap (λ (b : Bool). cond b (Some Full) None) (lt-ltb (slots (length ws) N - length (means ws).held) 1 (omega (arith, h, size_means ws))))

  pub room : (o : Operation) → Operands N C o → C < slots (length ws) N → None ≡ refusal (means ws) 1 (op_of o)
  room o ok h = sym (only_room o ok ∙ ap (λ (b : Bool). cond b (Some Full) None) (le-ltb (slots (length ws) N - length (means ws).held) 1 (omega (arith, h, size_means ws))))

  some_room : None ≡ full (means ws) 1 → C < slots (length ws) N
  some_room e = omega (arith, ltb-false (slots (length ws) N - length (means ws).held) 1 (cond_some _ Full e), size_means ws)

  number_fine : (a : ℕ) → ltb a (length (means ws).held) ≡ true → a < C
  number_fine a e = omega (arith, ltb-true a (length (means ws).held) e, size_means ws)

  numbers_fine : (a b : ℕ) → None ≡ numbers (means ws) a b 1 → ((a < C) × (b < C)) × (C < slots (length ws) N)
  numbers_fine a b e =
      let p = cond_none _ (full (means ws) 1) NoNumber e in
      let q = and_parts (ltb a (length (means ws).held)) (ltb b (length (means ws).held)) p.0 in
      ((number_fine a q.0, number_fine b q.1), some_room p.1)

  -- where none is due, the operands are in order and there is room
  pub none_due : (o : Operation) → None ≡ refusal (means ws) 1 (op_of o) → Operands N C o × (C < slots (length ws) N)
  none_due (Switch i) e = let p = cond_none (ltb i N) (full (means ws) 1) NoSwitch e in (ltb-true i N p.0, some_room p.1)
  none_due (Join how a b) e = numbers_fine a b (e ∙ joined_refusal how a b (means ws))

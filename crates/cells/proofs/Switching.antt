-- The set of the configurations that have one switch on.
use Rattle.std.proofs.Common.{◌≡◌, ℕ, suc, ◌+◌, ◌-◌, ◌^◌, ◌<◌, List, length, IfErr, Ok, Err, Result, sym, refl, ◌∙◌, subst, inr, arith}
use Rattle.stores.specs.declared.fault.StoreFault.{StoreFault}
use Rattle.stores.specs.declared.fault.StoreFault.TheVariants.{NoSwitch}
use Rattle.cells.specs.Cells.{Cell, on, Reduced, node, build, Sides}
use Rattle.cells.specs.Words.{switches, cells_of, capacity, switch_of, Stepped, StepOutcome, SameWorking, Valid, Operated}
use Rattle.cells.proofs.Bit.{on_low, on_high, on_below}
use Rattle.cells.proofs.Held.{held}
use Rattle.cells.proofs.Recursion.{build_down}
use Rattle.cells.proofs.Steps.{mean_none, mean_all}
use Rattle.cells.proofs.Asked.{level_none}
use Rattle.cells.proofs.Restored.{accepted}

pub switch_sides : (n : ℕ) (cs : List Cell) → Reduced n cs → (i : ℕ) → i < n → Sides n cs (i, 0, 1)
switch_sides n cs w i h =
    record {
      switch = h;
      low = omega (arith, w.two);
      high = omega (arith, w.two);
      low_level = omega (arith, level_none cs 0 (omega arith));
      high_level = omega (arith, level_none cs 1 (omega arith));
    }

at_switch : (n : ℕ) (cs : List Cell) → Reduced n cs → (i : ℕ) → i < n → build cs (suc i) (on i) ≡ node cs (i, 0, 1)
unfolding build
at_switch n cs w i h =
    let low : build cs i (on i) ≡ (cs, 0) =
    held n cs w i (on i) 0 (omega (arith, w.two)) (omega (arith, level_none cs 0 (omega arith))) (λ k l. on_low i k l ∙ sym (mean_none cs k)) in
    let high : build cs i (λ k. on i (2 ^ i + k)) ≡ (cs, 1) =
    held n cs w i (λ k. on i (2 ^ i + k)) 1 (omega (arith, w.two)) (omega (arith, level_none cs 1 (omega arith))) (λ k l. on_high i k l ∙ sym (mean_all cs k)) in
    simp (low, high)

-- one cell over the two ends is the diagram of a switch
pub switch_built : (n : ℕ) (cs : List Cell) → Reduced n cs → (i : ℕ) → i < n → build cs n (on i) ≡ node cs (i, 0, 1)
switch_built n cs w i h =
    let d : ℕ = n - suc i in
    let e : suc i + d ≡ n = omega arith in
    subst (λ (m : ℕ). build cs m (on i) ≡ node cs (i, 0, 1)) e
    (build_down n cs w (suc i) d (on i) (omega arith) (λ m k l b. on_below i m k (omega arith)) ∙ at_switch n cs w i h)

pub switched : (ws ws₁ : List ℕ) (i : ℕ) (r : Result ℕ StoreFault) → Valid ws → i < switches ws → length ws₁ ≡ length ws
    → StepOutcome ws ws₁ (node (cells_of ws) (i, 0, 1)) r → SameWorking ws ws₁ → IfErr r (λ _. ws₁ ≡ ws)
    → Operated ws ws₁ (i < switches ws) NoSwitch (switch_of ws i) r
switched ws ws₁ i (Ok r) s h len x work same =
    let e = switch_built (switches ws) (cells_of ws) s.formed.reduced i h in (
      h,
      accepted ws ws₁ ws₁ (switch_of ws i) r s len (subst (λ (p : List Cell × ℕ). Stepped ws ws₁ p r) (sym e) x)
          (record { outside = record { length_same = refl; same_there = λ j o. refl }; idle = λ j a b. work j a b ∙ s.idle j a b }),
    )
switched ws ws₁ i (Err f) s h len x work same =
    let e = switch_built (switches ws) (cells_of ws) s.formed.reduced i h in
    (same, inr (x.0, h, subst (λ (p : List Cell × ℕ). capacity ws < length p.0) (sym e) x.1.full))

-- One step of the recursion, accepted or refused, over the words.
use Rattle.std.proofs.Common.{◌≡◌, ℕ, suc, ◌-◌, ◌/◌, ◌^◌, ◌<◌, ◌≤◌, min, Bool, true, false, List, length, Ok, Err, Result, sym, refl, ap, ◌∙◌, subst, ap₂, arith}
use Rattle.stores.specs.declared.fault.StoreFault.{StoreFault}
use Rattle.cells.specs.Cells.{Cell, mean, walk, level, Reduced, Grows, Sides, node, low_at, high_at, applied}
use Rattle.cells.specs.Words.{switches, count, cells_of, capacity, WellFormed, Stepped, OutOfRoom, StepOutcome, op_of}
use Rattle.cells.proofs.Grow.{grows_refl, grows_trans}
use Rattle.cells.proofs.Recursion.{Step, step, applied_held}
use Rattle.cells.proofs.Chained.{length_cells}

-- what the recursion knows before its calls
pub record Apart (ws : List ℕ) (s a b al bl ah bh : ℕ) : Type 0 where
  pub formed : WellFormed ws
  pub there_a : a < count ws
  pub there_b : b < count ws
  pub switch : s < switches ws
  pub level_a : level (cells_of ws) a ≤ suc s
  pub level_b : level (cells_of ws) b ≤ suc s
  pub low_a : al ≡ low_at (cells_of ws) s a
  pub low_b : bl ≡ low_at (cells_of ws) s b
  pub high_a : ah ≡ high_at (cells_of ws) s a
  pub high_b : bh ≡ high_at (cells_of ws) s b

module _ (op : Bool → Bool → Bool) (ws : List ℕ) (s a b al bl ah bh : ℕ) (t : Apart ws s a b al bl ah bh) where
  the_step : Step op (switches ws) (cells_of ws) s a b
  the_step =
      step op (switches ws) (cells_of ws) t.formed.reduced s a b t.switch
      (omega (arith, length_cells ws, t.there_a)) (omega (arith, length_cells ws, t.there_b)) t.level_a t.level_b

  pub lows_there : (al < count ws) × (bl < count ws)
  lows_there =
      (omega (arith, length_cells ws, t.low_a, the_step.low_a), omega (arith, length_cells ws, t.low_b, the_step.low_b))

  low_is : (p : List Cell × ℕ) → p ≡ op_of op ws al bl → p ≡ applied op (switches ws) (cells_of ws) (low_at (cells_of ws) s a) (low_at (cells_of ws) s b)
  low_is p e = e ∙ ap₂ (applied op (switches ws) (cells_of ws)) t.low_a t.low_b

  -- the low side is refused
  pub full_low : (ws₁ : List ℕ) → OutOfRoom ws ws₁ (op_of op ws al bl) → OutOfRoom ws ws₁ (op_of op ws a b)
  full_low ws₁ x =
      let f = the_step.first (op_of op ws al bl) (low_is _ refl) in
      record
      { full = omega (arith, x.full, f.2); formed = x.formed; grows = x.grows; switches_same = x.switches_same; beyond = x.beyond }

  module _ (ws₁ : List ℕ) (low : ℕ) (x : Stepped ws ws₁ (op_of op ws al bl) low) where
    low_facts : (Reduced (switches ws) (cells_of ws₁)) × (Grows (cells_of ws) (cells_of ws₁)) × (length (cells_of ws₁) ≤ length (op_of op ws a b).0)
    low_facts = the_step.first (cells_of ws₁, low) (low_is _ x.answers)

    pub highs_there : (ah < count ws₁) × (bh < count ws₁)
    highs_there =
        let g = low_facts.1.longer in
        (omega (arith, g, length_cells ws₁, t.high_a, the_step.high_a), omega (arith, g, length_cells ws₁, t.high_b, the_step.high_b))

    high_is : (q : List Cell × ℕ) → q ≡ op_of op ws₁ ah bh
        → q ≡ applied op (switches ws) (cells_of ws₁) (high_at (cells_of ws) s a) (high_at (cells_of ws) s b)
    high_is q e =
        e ∙ ap (λ (n : ℕ). applied op n (cells_of ws₁) ah bh) x.switches_same
        ∙ ap₂ (applied op (switches ws) (cells_of ws₁)) t.high_a t.high_b

    high_facts : (q : List Cell × ℕ) → q ≡ op_of op ws₁ ah bh
        → (Sides (switches ws) q.0 (s, low, q.1)) × (Grows (cells_of ws₁) q.0) × (length q.0 ≤ length (op_of op ws a b).0)
        × (op_of op ws a b ≡ node q.0 (s, low, q.1))
    high_facts q e = the_step.second (cells_of ws₁, low) q (low_is _ x.answers) (high_is q e)

    -- the high side is refused
    pub full_high : (ws₂ : List ℕ) → length ws₁ ≡ length ws → OutOfRoom ws₁ ws₂ (op_of op ws₁ ah bh) → OutOfRoom ws ws₂ (op_of op ws a b)
    full_high ws₂ l y =
        let f = high_facts (op_of op ws₁ ah bh) refl in
        let c : capacity ws₁ ≡ capacity ws = ap (λ (n : ℕ). min 65535 ((n - 1090) / 4)) l in
        record {
          full = omega (arith, y.full, f.2, c);
          formed = y.formed;
          grows = grows_trans (cells_of ws) (cells_of ws₁) (cells_of ws₂) low_facts.1 y.grows;
          switches_same = y.switches_same ∙ x.switches_same;
          beyond = λ i h. y.beyond i h ∙ x.beyond i (omega (arith, y.grows.longer, length_cells ws₁, length_cells ws₂));
        }

    module _ (ws₂ : List ℕ) (high : ℕ) (y : Stepped ws₁ ws₂ (op_of op ws₁ ah bh) high) where
      both_facts : (Sides (switches ws) (cells_of ws₂) (s, low, high)) × (Grows (cells_of ws₁) (cells_of ws₂)) × (length (cells_of ws₂) ≤ length (op_of op ws a b).0)
          × (op_of op ws a b ≡ node (cells_of ws₂) (s, low, high))
      both_facts = high_facts (cells_of ws₂, high) y.answers

      pub sides_there : Sides (switches ws₂) (cells_of ws₂) (s, low, high)
      sides_there =
          subst (λ (n : ℕ). Sides n (cells_of ws₂) (s, low, high)) (sym (y.switches_same ∙ x.switches_same)) both_facts.0

      -- the cell over the two sides, or its refusal
      pub outcome : (ws₃ : List ℕ) (r : Result ℕ StoreFault) → length ws₂ ≡ length ws → StepOutcome ws₂ ws₃ (node (cells_of ws₂) (s, low, high)) r → StepOutcome ws ws₃ (op_of op ws a b) r
      outcome ws₃ (Ok r) l z =
          let k : Grows (cells_of ws₂) (cells_of ws₃) = z.grows in
          record {
            formed = z.formed;
            answers = z.answers ∙ sym both_facts.3;
            grows = grows_trans (cells_of ws) (cells_of ws₁) (cells_of ws₃) low_facts.1 (grows_trans (cells_of ws₁) (cells_of ws₂) (cells_of ws₃) both_facts.1 k);
            switches_same = z.switches_same ∙ y.switches_same ∙ x.switches_same;
            beyond = λ i h. z.beyond i h
                ∙ y.beyond i (omega (arith, k.longer, length_cells ws₂, length_cells ws₃))
                ∙ x.beyond i (omega (arith, k.longer, both_facts.1.longer, length_cells ws₁, length_cells ws₂, length_cells ws₃));
          }
      outcome ws₃ (Err e) l z =
          let c : capacity ws₂ ≡ capacity ws = ap (λ (n : ℕ). min 65535 ((n - 1090) / 4)) l in
          let w : OutOfRoom ws₂ ws₃ (node (cells_of ws₂) (s, low, high)) = z.1 in
          let v : length (op_of op ws a b).0 ≡ length (node (cells_of ws₂) (s, low, high)).0 = ap (λ (p : List Cell × ℕ). length p.0) both_facts.3 in (
            z.0,
            record {
              full = omega (arith, w.full, c, v);
              formed = w.formed;
              grows = grows_trans (cells_of ws) (cells_of ws₁) (cells_of ws₃) low_facts.1
                  (grows_trans (cells_of ws₁) (cells_of ws₂) (cells_of ws₃) both_facts.1 w.grows);
              switches_same = w.switches_same ∙ y.switches_same ∙ x.switches_same;
              beyond = λ i h. w.beyond i h
                  ∙ y.beyond i (omega (arith, w.grows.longer, length_cells ws₂, length_cells ws₃))
                  ∙ x.beyond i (omega (arith, w.grows.longer, both_facts.1.longer, length_cells ws₁, length_cells ws₂, length_cells ws₃));
            },
          )

-- an answer that is held
pub stepped_there : (op : Bool → Bool → Bool) (ws : List ℕ) → WellFormed ws → (a b r : ℕ) → r < count ws
    → ((k : ℕ) → k < 2 ^ switches ws → op (mean (cells_of ws) a k) (mean (cells_of ws) b k) ≡ mean (cells_of ws) r k) → Stepped ws ws (op_of op ws a b) r
stepped_there op ws s a b r hr e =
    record {
      formed = s;
      answers = sym (applied_held op (switches ws) (cells_of ws) s.reduced a b r (omega (arith, length_cells ws)) e);
      grows = grows_refl (cells_of ws);
      switches_same = refl;
      beyond = λ i h. refl;
    }

pub mean_none : (cs : List Cell) (k : ℕ) → mean cs 0 k ≡ false
unfolding walk
mean_none cs k = refl

pub mean_all : (cs : List Cell) (k : ℕ) → mean cs 1 k ≡ true
unfolding walk
mean_all cs k = refl

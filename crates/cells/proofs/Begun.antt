-- The words of a new store.
use Rattle.std.proofs.Common.{◌≡◌, ℕ, zero, suc, ◌+◌, ◌-◌, ◌*◌, ◌/◌, ◌<◌, ◌≤◌, min, ltb, ◌⊎◌, List, length, get_or, set, Some, None, sym, refl, ap, ◌∙◌, subst, inl, inr, ⊎_elim, arith}
use Rattle.std.proofs.lemmas.List.{length-set, get_or-set_same, get_or-set_other}
use Rattle.cells.specs.Cells.{Cell, at, Reduced}
use Rattle.cells.specs.Words.{cell_at, next_at, cells_of, chain_of, latest, capacity, Lies, Wiped, New, written, begun, ends, due}
use Rattle.std.proofs.lemmas.Bool.{lt-ltb, le-ltb, cond-true, cond-false}
use Rattle.stores.specs.declared.fault.StoreFault.TheVariants.{TooSmall, TooManySwitches}
use Rattle.cells.proofs.Chained.{cells_of_laid}
use Rattle.cells.proofs.Written.{written_places, cell_stays}

ends_reduced : (n : ℕ) → n ≤ 24 → Reduced n ends
ends_reduced n h =
    record {
      admitted = h;
      two = omega arith;
      none = refl;
      all = refl;
      ordered = λ c a b. absurd (omega arith);
      apart = one;
    }
  where
    one : (c d : ℕ) → c < 2 → d < 2 → at ends c ≡ at ends d → c ≡ d
    one zero zero a b e = refl
    one zero (suc zero) a b e = ap (λ (x : Cell). x.1) e
    one zero (suc (suc d)) a b e = absurd (omega arith)
    one (suc zero) zero a b e = ap (λ (x : Cell). x.1) e
    one (suc zero) (suc zero) a b e = refl
    one (suc zero) (suc (suc d)) a b e = absurd (omega arith)
    one (suc (suc c)) d a b e = absurd (omega arith)

-- what is at each place
record Placed (ws ws' : List ℕ) (n : ℕ) : Type 0 where
  w0 : get_or ws' 0 0 ≡ n
  w1 : get_or ws' 1 0 ≡ 2
  none : cell_at ws' 0 ≡ (32, 0, 0)
  all : cell_at ws' 1 ≡ (32, 1, 1)
  len : length ws' ≡ length ws
  other : (i : ℕ) → (1 < i) → (i < 1090) ⊎ ((i ≡ 1093) ⊎ (1097 ≤ i)) → get_or ws' i 0 ≡ get_or ws i 0

set_places : (ws : List ℕ) (n : ℕ) → 1098 ≤ length ws → Placed ws (begun ws n) n
set_places ws n room =
    let l₀ : List ℕ = set ws 0 n in
    let l₁ : List ℕ = set l₀ 1 2 in
    let l₂ : List ℕ = written l₁ 0 (32, 0, 0) in
    let n₀ : length l₀ ≡ length ws = length-set ws 0 n in
    let n₁ : length l₁ ≡ length l₀ = length-set l₀ 1 2 in
    let a = written_places l₁ 0 (32, 0, 0) (omega arith) in
    let b = written_places l₂ 1 (32, 1, 1) (omega (arith, a.length_now)) in
    record {
      w0 = b.other 0 (inl (omega arith)) ∙ a.other 0 (inl (omega arith)) ∙ get_or-set_other l₀ 1 0 2 0 (omega arith) ∙ get_or-set_same ws 0 n 0 (omega arith);
      w1 = b.other 1 (inl (omega arith)) ∙ a.other 1 (inl (omega arith)) ∙ get_or-set_same l₀ 1 2 0 (omega arith);
      none = cell_stays l₂ (begun ws n) 0 (λ j h. b.other (1090 + j) (inl (omega arith))) ∙ a.cell_now;
      all = b.cell_now;
      len = b.length_now ∙ a.length_now ∙ n₁ ∙ n₀;
      other = λ i g o.
          let p : (i < 1090) ⊎ (1093 ≤ i) = ⊎_elim (λ (l : i < 1090). inl l) (λ (r : (i ≡ 1093) ⊎ (1097 ≤ i)). inr (⊎_elim (λ (e : i ≡ 1093). omega arith) (λ (l : 1097 ≤ i). omega arith) r)) o in
          let q : (i < 1094) ⊎ (1097 ≤ i) = ⊎_elim (λ (l : i < 1090). inl (omega arith)) (λ (r : (i ≡ 1093) ⊎ (1097 ≤ i)). ⊎_elim (λ (e : i ≡ 1093). inl (omega arith)) (λ (l : 1097 ≤ i). inr l) r) o in
          b.other i q ∙ a.other i p ∙ get_or-set_other l₀ 1 i 2 0 (omega arith) ∙ get_or-set_other ws 0 i n 0 (omega arith);
    }

ends_latest : (h : ℕ) → latest ends h 2 ≡ 0
unfolding latest
ends_latest h = refl

ends_latest_one : (h : ℕ) → latest ends h 1 ≡ 0
unfolding latest
ends_latest_one h = refl

ends_latest_none : (h : ℕ) → latest ends h 0 ≡ 0
unfolding latest
ends_latest_none h = refl

pub new_store : (ws ws₁ ws₂ : List ℕ) (n : ℕ) → n ≤ 24 → 1098 ≤ length ws → length ws₁ ≡ length ws → Wiped ws ws₁ → ws₂ ≡ begun ws₁ n → New ws n ws₂
new_store ws ws₁ ws₂ n hn room len₁ w e =
    let p : Placed ws₁ ws₂ n = subst (λ (v : List ℕ). Placed ws₁ v n) (sym e) (set_places ws₁ n (omega arith)) in
    let len₂ = p.len in
    let c₁ : capacity ws₂ ≡ capacity ws = ap (λ (m : ℕ). min 65535 ((m - 1090) / 4)) (len₂ ∙ len₁) in
    let two : 2 ≤ capacity ws = omega arith in
    let z : (i : ℕ) → 1 < i → i < 1090 → get_or ws₂ i 0 ≡ 0 = λ i g h. p.other i g (inl h) ∙ w.zeroed i (omega arith) in
    let past : (i : ℕ) → 1097 ≤ i → i < 1090 + 4 * capacity ws → get_or ws₂ i 0 ≡ 0 = λ i g h. p.other i (omega arith) (inr (inr g)) ∙ w.zeroed i h in
    let q₃ : get_or ws₂ 1093 0 ≡ 0 = p.other 1093 (omega arith) (inr (inl refl)) ∙ w.zeroed 1093 (omega arith) in
    let q₇ : get_or ws₂ 1097 0 ≡ 0 = past 1097 (omega arith) (omega arith) in
    let l : Lies n ends ws₂ =
    record {
      switches_are = p.w0;
      count_is = p.w1;
      room = omega arith;
      few = omega arith;
      cells_are = both_cells ws₂ p.none p.all;
      heads = λ h lt. z (2 + h) (omega arith) (omega arith) ∙ sym (ends_latest h);
      nexts = both_nexts ws₂ q₃ q₇;
    } in
    let c : cells_of ws₂ ≡ ends = cells_of_laid n ends ws₂ l in
    record {
      store = record {
        formed = record {
          lies = subst (λ (m : ℕ). Lies m (cells_of ws₂) ws₂) (sym p.w0) (subst (λ (y : List Cell). Lies n y ws₂) (sym c) l);
          reduced = subst (λ (m : ℕ). Reduced m (cells_of ws₂)) (sym p.w0) (subst (Reduced n) (sym c) (ends_reduced n hn));
        };
        idle = λ i a b. z i (omega arith) b;
        free = λ i a b. past i (omega (arith, p.w1)) (omega arith);
      };
      switches_are = p.w0;
      cells_are = c;
      beyond = λ i h. p.other i (omega arith) (inr (inr (omega arith))) ∙ w.beyond i h;
    }
  where
    both_cells : (v : List ℕ) → cell_at v 0 ≡ (32, 0, 0) → cell_at v 1 ≡ (32, 1, 1) → (c : ℕ) → c < 2 → cell_at v c ≡ at ends c
    both_cells v a b zero h = a
    both_cells v a b (suc zero) h = b
    both_cells v a b (suc (suc c)) h = absurd (omega arith)

    both_nexts : (v : List ℕ) → next_at v 0 ≡ 0 → next_at v 1 ≡ 0 → (c : ℕ) → c < 2 → next_at v c ≡ latest ends (chain_of (at ends c)) c
    both_nexts v a b zero h = a ∙ sym (ends_latest_none _)
    both_nexts v a b (suc zero) h = b ∙ sym (ends_latest_one _)
    both_nexts v a b (suc (suc c)) h = absurd (omega arith)

-- which refusal of making is due
pub due_many : (ws : List ℕ) (n : ℕ) → 24 < n → due ws n ≡ Some TooManySwitches
due_many ws n h = cond-true (ltb 24 n) _ _ (lt-ltb 24 n h)

pub due_small : (ws : List ℕ) (n : ℕ) → n ≤ 24 → length ws < 1098 → due ws n ≡ Some TooSmall
due_small ws n few h = cond-false (ltb 24 n) _ _ (le-ltb 24 n few) ∙ cond-true (ltb (capacity ws) 2) _ _ (lt-ltb (capacity ws) 2 (omega arith))

pub due_none : (ws : List ℕ) (n : ℕ) → n ≤ 24 → 1098 ≤ length ws → due ws n ≡ None
due_none ws n few h = cond-false (ltb 24 n) _ _ (le-ltb 24 n few) ∙ cond-false (ltb (capacity ws) 2) _ _ (le-ltb (capacity ws) 2 (omega arith))

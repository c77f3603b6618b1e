-- The working words as a memory of answers.
use Rattle.std.proofs.Common.{◌≡◌, ℕ, ◌+◌, ◌*◌, ◌/◌, ◌%◌, ◌^◌, ◌<◌, ◌≤◌, Bool, ◌≢◌, List, map, length, get_or, set, sym, refl, ap, ◌∙◌, subst, ap₂, inl, inr, ⊎_elim, arith}
use mathlib.Core.Path.{subst₃, fun_ext}
use Rattle.std.specs.List.{range_with_len}
use Rattle.std.proofs.lemmas.Nat.{mod_below}
use Rattle.std.proofs.lemmas.List.{length-set, get_or-set_same, get_or-set_other}
use Rattle.std.proofs.lemmas.Bool.{cases_eq}
use Rattle.cells.specs.Cells.{Cell, at, mean, Reduced, Grows, Made}
use Rattle.cells.specs.Words.{switches, count, cell_at, cells_of, Lies, WellFormed, Stepped, Outside, SameWorking, Correct, Remembers, slot, remembered, op_of}
use Rattle.cells.proofs.Grow.{walk_kept}
use Rattle.cells.proofs.Build.{build_made}
use Rattle.cells.proofs.Chained.{length_cells}

-- the cells do not depend on the working words
pub outside_cells : (ws ws' : List ℕ) → Outside ws ws' → cells_of ws' ≡ cells_of ws
unfolding cells_of
outside_cells ws ws' o =
    let f : cell_at ws' ≡ cell_at ws = fun_ext (λ c.
    let q₀ = o.same_there (1090 + 4 * c) (inr (omega arith)) in
    let q₁ = o.same_there (1090 + 4 * c + 1) (inr (omega arith)) in
    let q₂ = o.same_there (1090 + 4 * c + 2) (inr (omega arith)) in
    (λ i. (q₀ i, q₁ i, q₂ i))) in
    ap₂ (λ (g : ℕ → Cell) (m : ℕ). map g (range_with_len 0 m)) f (o.same_there 1 (inl (omega arith)))

pub outside_formed : (ws ws' : List ℕ) → Outside ws ws' → WellFormed ws → WellFormed ws'
outside_formed ws ws' o s =
    let e : cells_of ws' ≡ cells_of ws = outside_cells ws ws' o in
    let n : switches ws' ≡ switches ws = o.same_there 0 (inl (omega arith)) in
    let l = s.lies in
    let m : Lies (switches ws') (cells_of ws) ws' =
    record {
      switches_are = refl;
      count_is = o.same_there 1 (inl (omega arith)) ∙ l.count_is;
      room = omega (arith, o.length_same, l.room);
      few = l.few;
      cells_are = λ c h.
          (let q₀ = o.same_there (1090 + 4 * c) (inr (omega arith)) in
          let q₁ = o.same_there (1090 + 4 * c + 1) (inr (omega arith)) in
          let q₂ = o.same_there (1090 + 4 * c + 2) (inr (omega arith)) in
          let q : cell_at ws' c ≡ cell_at ws c = λ i. (q₀ i, q₁ i, q₂ i) in q ∙ l.cells_are c h);
      heads = λ h lt. o.same_there (2 + h) (inl (omega arith)) ∙ l.heads h lt;
      nexts = λ c h. o.same_there (1090 + 4 * c + 3) (inr (omega arith)) ∙ l.nexts c h;
    } in
    record {
      lies = subst (λ (cs : List Cell). Lies (switches ws') cs ws') (sym e) m;
      reduced = subst (λ (cs : List Cell). Reduced (switches ws') cs) (sym e) (subst (λ (k : ℕ). Reduced k (cells_of ws)) (sym n) s.reduced);
    }

-- what is right stays right as cells are added
pub right_kept : (op : Bool → Bool → Bool) (ws ws' : List ℕ) → WellFormed ws → switches ws' ≡ switches ws → Grows (cells_of ws) (cells_of ws')
    → (a b r : ℕ) → Correct op ws a b r → Correct op ws' a b r
right_kept op ws ws' s n g a b r x =
    let len = length_cells ws in
    let len' = length_cells ws' in
    let lo = g.longer in
    let keep : (c k : ℕ) → c < count ws → mean (cells_of ws') c k ≡ mean (cells_of ws) c k =
    λ c k h. walk_kept (switches ws) (cells_of ws) (cells_of ws') s.reduced g c c k (omega arith) in
    record {
      there_a = omega (arith, x.there_a);
      there_b = omega (arith, x.there_b);
      there = omega (arith, x.there);
      is = λ k h.
          ap₂ op (keep a k x.there_a) (keep b k x.there_b)
          ∙ x.is k (subst (λ (m : ℕ). k < 2 ^ m) n h)
          ∙ sym (keep r k x.there);
    }

-- the memory of answers stays as cells are added
pub remembers_kept : (op : Bool → Bool → Bool) (ws ws' : List ℕ) → WellFormed ws → switches ws' ≡ switches ws → Grows (cells_of ws) (cells_of ws')
    → SameWorking ws ws' → Remembers op ws → Remembers op ws'
remembers_kept op ws ws' s n g same m =
    record {
      recalls = λ e h z.
          let p : get_or ws' (66 + 2 * e) 0 ≡ get_or ws (66 + 2 * e) 0 = same (66 + 2 * e) (omega arith) (omega arith) in
          let q : get_or ws' (66 + 2 * e + 1) 0 ≡ get_or ws (66 + 2 * e + 1) 0 = same (66 + 2 * e + 1) (omega arith) (omega arith) in
          right_kept op ws ws' s n g _ _ _
          (subst (λ (y : ℕ). Correct op ws (y / 65536) (y % 65536) (get_or ws' (66 + 2 * e + 1) 0)) (sym p)
          (subst (λ (y : ℕ). Correct op ws (get_or ws (66 + 2 * e) 0 / 65536) (get_or ws (66 + 2 * e) 0 % 65536) y) (sym q)
          (m.recalls e h (λ y. z (p ∙ y)))));
    }

-- the answer of an accepted operation is right
pub stepped_right : (op : Bool → Bool → Bool) (ws ws' : List ℕ) (a b r : ℕ) → WellFormed ws → a < count ws → b < count ws
    → Stepped ws ws' (op_of op ws a b) r → Correct op ws' a b r
stepped_right op ws ws' a b r s ha hb x =
    let n : ℕ = switches ws in
    let cs : List Cell = cells_of ws in
    let m : Made n cs n (λ k. op (mean cs a k) (mean cs b k)) (cells_of ws', r) =
    subst (Made n cs n (λ k. op (mean cs a k) (mean cs b k))) (sym x.answers)
    (build_made n cs s.reduced n (λ k. op (mean cs a k) (mean cs b k)) (omega arith)) in
    let g = x.grows in
    let lo = g.longer in
    let len = length_cells ws in
    let len' = length_cells ws' in
    let keep : (c k : ℕ) → c < count ws → mean (cells_of ws') c k ≡ mean cs c k =
    λ c k h. walk_kept n cs (cells_of ws') s.reduced g c c k (omega arith) in
    record {
      there_a = omega arith;
      there_b = omega arith;
      there = omega (arith, m.there);
      is = λ k h. ap₂ op (keep a k ha) (keep b k hb) ∙ sym (m.means k (subst (λ (j : ℕ). k < 2 ^ j) x.switches_same h));
    }

remembered_outside : (ws : List ℕ) (a b r : ℕ) → Outside ws (remembered ws a b r)
remembered_outside ws a b r =
    let h : slot a b < 512 = mod_below (a + 3 * b) 512 (omega arith) in
    record {
      length_same = length-set _ (66 + 2 * slot a b + 1) r ∙ length-set ws (66 + 2 * slot a b) (a * 65536 + b);
      same_there = λ i o.
          get_or-set_other (set ws (66 + 2 * slot a b) (a * 65536 + b)) (66 + 2 * slot a b + 1) i r 0 (λ e. omega arith)
          ∙ get_or-set_other ws (66 + 2 * slot a b) i (a * 65536 + b) 0 (λ e. omega arith);
    }

-- an answer that is right may be remembered
pub remembered_right : (op : Bool → Bool → Bool) (ws : List ℕ) (a b r : ℕ) → WellFormed ws → b < 65536 → Correct op ws a b r → Remembers op ws
    → Remembers op (remembered ws a b r)
remembered_right op ws a b r s hb x m =
    let ws' : List ℕ = remembered ws a b r in
    let o : Outside ws ws' = remembered_outside ws a b r in
    let c : cells_of ws' ≡ cells_of ws = outside_cells ws ws' o in
    let n : switches ws' ≡ switches ws = o.same_there 0 (inl (omega arith)) in
    let g : Grows (cells_of ws) (cells_of ws') = record { longer = omega (arith, ap length c); kept = λ j h. ap (λ (y : List Cell). at y j) c } in
    let v : slot a b < 512 = mod_below (a + 3 * b) 512 (omega arith) in
    let room : 1090 ≤ length ws = omega (arith, s.lies.room) in
    let l : List ℕ = set ws (66 + 2 * slot a b) (a * 65536 + b) in
    let len : length l ≡ length ws = length-set ws (66 + 2 * slot a b) (a * 65536 + b) in
    record {
      recalls = λ e h z.
          ⊎_elim
          (λ (t : e ≡ slot a b).
          let P : ℕ → Type 0 = λ j. Correct op ws' (get_or ws' (66 + 2 * j) 0 / 65536) (get_or ws' (66 + 2 * j) 0 % 65536) (get_or ws' (66 + 2 * j + 1) 0) in
          let p : get_or ws' (66 + 2 * slot a b) 0 ≡ a * 65536 + b =
          get_or-set_other l (66 + 2 * slot a b + 1) (66 + 2 * slot a b) r 0 (λ q. omega arith) ∙ get_or-set_same ws (66 + 2 * slot a b) (a * 65536 + b) 0 (omega arith) in
          let q : get_or ws' (66 + 2 * slot a b + 1) 0 ≡ r = get_or-set_same l (66 + 2 * slot a b + 1) r 0 (omega arith) in
          let pa : a ≡ get_or ws' (66 + 2 * slot a b) 0 / 65536 = omega arith in
          let pb : b ≡ get_or ws' (66 + 2 * slot a b) 0 % 65536 = omega arith in
          let y : Correct op ws' a b r = right_kept op ws ws' s n g a b r x in
          subst P (sym t)
          (subst₃ (Correct op ws') pa pb (sym q) y))
          (λ (t : e ≢ slot a b).
          let p : get_or ws' (66 + 2 * e) 0 ≡ get_or ws (66 + 2 * e) 0 =
          get_or-set_other l (66 + 2 * slot a b + 1) (66 + 2 * e) r 0 (λ q. omega arith)
          ∙ get_or-set_other ws (66 + 2 * slot a b) (66 + 2 * e) (a * 65536 + b) 0 (λ q. t (omega arith)) in
          let q : get_or ws' (66 + 2 * e + 1) 0 ≡ get_or ws (66 + 2 * e + 1) 0 =
          get_or-set_other l (66 + 2 * slot a b + 1) (66 + 2 * e + 1) r 0 (λ q. t (omega arith))
          ∙ get_or-set_other ws (66 + 2 * slot a b) (66 + 2 * e + 1) (a * 65536 + b) 0 (λ q. omega arith) in
          right_kept op ws ws' s n g _ _ _
          (subst (λ (y : ℕ). Correct op ws (y / 65536) (y % 65536) (get_or ws' (66 + 2 * e + 1) 0)) (sym p)
          (subst (λ (y : ℕ). Correct op ws (get_or ws (66 + 2 * e) 0 / 65536) (get_or ws (66 + 2 * e) 0 % 65536) y) (sym q)
          (m.recalls e h (λ y. z (p ∙ y))))))
          (cases_eq e (slot a b));
    }

-- the answer is the same after it is remembered
pub stepped_remembered : (ws ws' : List ℕ) (p : List Cell × ℕ) (a b r : ℕ) → Stepped ws ws' p r → Stepped ws (remembered ws' a b r) p r
stepped_remembered ws ws' p a b r x =
    let ws'' : List ℕ = remembered ws' a b r in
    let o : Outside ws' ws'' = remembered_outside ws' a b r in
    let c : cells_of ws'' ≡ cells_of ws' = outside_cells ws' ws'' o in
    let n : count ws'' ≡ count ws' = o.same_there 1 (inl (omega arith)) in
    record {
      formed = outside_formed ws' ws'' o x.formed;
      answers = ap (λ (y : List Cell). (y, r)) c ∙ x.answers;
      grows = subst (Grows (cells_of ws)) (sym c) x.grows;
      switches_same = o.same_there 0 (inl (omega arith)) ∙ x.switches_same;
      beyond = λ i h. o.same_there i (inr (omega arith)) ∙ x.beyond i (omega arith);
    }

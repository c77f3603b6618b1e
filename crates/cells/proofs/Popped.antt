-- Taking the last cell away, and cutting.
use Rattle.std.proofs.Common.{◌≡◌, ℕ, zero, suc, ◌+◌, ◌-◌, ◌*◌, ◌/◌, ◌<◌, ◌≤◌, min, ◌≢◌, ◌⊎◌, List, length, get_or, take, set, sym, refl, ap, ◌∙◌, subst, inl, inr, ⊎_elim, arith}
use Rattle.std.proofs.lemmas.Nat.{mod_below}
use Rattle.std.proofs.lemmas.List.{length-set, get_or-set_same, get_or-set_other, length-take-le, get_or-take}
use Rattle.std.proofs.lemmas.Bool.{cases_lt, cases_eq}
use Rattle.cells.specs.Cells.{Cell, at, level, Ordered, Reduced, Grows}
use Rattle.cells.specs.Words.{switches, count, cell_at, next_at, cells_of, chain_of, latest, Lies, WellFormed, Valid, popped, Cut}
use Rattle.cells.proofs.Grow.{grows_refl, grows_trans, level_kept}
use Rattle.cells.proofs.Pushed.{latest_kept, latest_same}
use Rattle.cells.proofs.Chained.{cells_of_laid, length_cells}
use Rattle.cells.proofs.Filled.{length_four, four, four_zero}

-- the first cells of a reduced diagram are one
pub front_reduced : (n : ℕ) (ds cs : List Cell) → Grows ds cs → 2 ≤ length ds → Reduced n cs → Reduced n ds
front_reduced n ds cs g two w =
    let lo = g.longer in
    record {
      admitted = w.admitted;
      two = two;
      none = sym (g.kept 0 (omega arith)) ∙ w.none;
      all = sym (g.kept 1 (omega arith)) ∙ w.all;
      ordered = λ c h hc.
          let o : Ordered n cs c = w.ordered c h (omega arith) in
          let e : at cs c ≡ at ds c = g.kept c hc in
          let lv : (d : ℕ) → d < c → level cs d ≡ level ds d = λ d l. level_kept ds cs g d (omega arith) in
          let P : Cell → Type 0 = λ y.
          (y.0 < n) × (y.1 < c) × (y.2 < c) × (y.1 ≢ y.2) × (level ds y.1 ≤ y.0) × (level ds y.2 ≤ y.0) in
          let t : P (at ds c) = subst P e
          (o.switch, o.low, o.high, o.differ, omega (arith, o.low_level, lv (at cs c).1 o.low), omega (arith, o.high_level, lv (at cs c).2 o.high)) in
          record { switch = t.0; low = t.1; high = t.2; differ = t.3; low_level = t.4; high_level = t.5 };
      apart = λ c d hc hd e. w.apart c d (omega arith) (omega arith) (g.kept c hc ∙ e ∙ sym (g.kept d hd));
    }

pub record Less (ws ws' : List ℕ) : Type 0 where
  pub count_now : count ws' ≡ count ws - 1
  pub head_now : get_or ws' (2 + chain_of (cell_at ws (count ws - 1))) 0 ≡ next_at ws (count ws - 1)
  pub length_now : length ws' ≡ length ws
  pub clear : (i : ℕ) → 1090 + 4 * (count ws - 1) ≤ i → i < 1090 + 4 * (count ws - 1) + 4 → get_or ws' i 0 ≡ 0
  pub other : (i : ℕ) → i ≢ 1 → i ≢ 2 + chain_of (cell_at ws (count ws - 1)) → (i < 1090 + 4 * (count ws - 1)) ⊎ (1090 + 4 * (count ws - 1) + 4 ≤ i)
      → get_or ws' i 0 ≡ get_or ws i 0

pub popped_places : (ws : List ℕ) → 2 < count ws → 1090 + 4 * count ws ≤ length ws → Less ws (popped ws)
popped_places ws two room =
    let c : ℕ = count ws - 1 in
    let p : ℕ = 1090 + 4 * c in
    let h : ℕ = 2 + chain_of (cell_at ws c) in
    let hh : chain_of (cell_at ws c) < 64 = mod_below _ 64 (omega arith) in
    let l₀ : List ℕ = set ws h (next_at ws c) in
    let l₄ : List ℕ = set (set (set (set l₀ p 0) (p + 1) 0) (p + 2) 0) (p + 3) 0 in
    let n₀ : length l₀ ≡ length ws = length-set ws h (next_at ws c) in
    let n₄ : length l₄ ≡ length l₀ = length_four p l₀ in
    let fits : p + 4 ≤ length l₀ = omega (arith, n₀, room) in
    record {
      count_now = get_or-set_same l₄ 1 c 0 (omega arith);
      head_now =
          get_or-set_other l₄ 1 h c 0 (λ e. omega arith) ∙ four p l₀ h fits (λ e. omega arith) (λ e. omega arith) (λ e. omega arith) (λ e. omega arith)
          ∙ get_or-set_same ws h (next_at ws c) 0 (omega arith);
      length_now = length-set l₄ 1 c ∙ n₄ ∙ n₀;
      clear = λ i lo hi. get_or-set_other l₄ 1 i c 0 (λ e. omega arith) ∙ four_zero p l₀ i fits lo hi;
      other = λ i a b o.
          get_or-set_other l₄ 1 i c 0 a ∙ four p l₀ i fits (λ e. omega arith) (λ e. omega arith) (λ e. omega arith) (λ e. omega arith)
          ∙ get_or-set_other ws h i (next_at ws c) 0 b;
    }

-- the cells but the last lie in the words
popped_lies : (n : ℕ) (ds cs : List Cell) (ws ws' : List ℕ) → Lies n cs ws → Grows ds cs → length cs ≡ suc (length ds) → 2 ≤ length ds
    → Less ws ws' → Lies n ds ws'
popped_lies n ds cs ws ws' l g len two p =
    let m : count ws ≡ suc (length ds) = l.count_is ∙ len in
    let c : ℕ = length ds in
    let cm : count ws - 1 ≡ c = omega arith in
    let x : Cell = cell_at ws (count ws - 1) in
    let xc : x ≡ at cs c = ap (cell_at ws) cm ∙ l.cells_are c (omega arith) in
    let hh : chain_of x < 64 = mod_below _ 64 (omega arith) in
    record {
      switches_are = p.other 0 (λ e. omega arith) (λ e. omega arith) (inl (omega arith)) ∙ l.switches_are;
      count_is = p.count_now ∙ cm;
      room = omega (arith, p.length_now, l.room);
      few = omega (arith, l.few);
      cells_are = λ j h.
          (let q₀ = p.other (1090 + 4 * j) (λ e. omega arith) (λ e. omega arith) (inl (omega arith)) in
          let q₁ = p.other (1090 + 4 * j + 1) (λ e. omega arith) (λ e. omega arith) (inl (omega arith)) in
          let q₂ = p.other (1090 + 4 * j + 2) (λ e. omega arith) (λ e. omega arith) (inl (omega arith)) in
          let q : cell_at ws' j ≡ cell_at ws j = λ i. (q₀ i, q₁ i, q₂ i) in
          q ∙ l.cells_are j (omega arith) ∙ g.kept j h);
      heads = λ h lt.
          ⊎_elim
          (λ (e : h ≡ chain_of x).
          subst (λ (j : ℕ). get_or ws' (2 + j) 0 ≡ latest ds j c) (sym e)
          (p.head_now ∙ ap (next_at ws) cm ∙ l.nexts c (omega arith)
          ∙ ap (λ (y : Cell). latest cs (chain_of y) c) (sym xc)
          ∙ latest_kept ds cs g (chain_of x) c (omega arith)))
          (λ (ne : h ≢ chain_of x).
          p.other (2 + h) (λ e. omega arith) (λ e. ne (omega arith)) (inl (omega arith))
          ∙ l.heads h lt ∙ ap (latest cs h) len
          ∙ latest_same cs h c (λ e. ne (sym (ap chain_of xc ∙ e)))
          ∙ latest_kept ds cs g h c (omega arith))
          (cases_eq h (chain_of x));
      nexts = λ j h.
          p.other (1090 + 4 * j + 3) (λ e. omega arith) (λ e. omega arith) (inl (omega arith))
          ∙ l.nexts j (omega arith)
          ∙ ap (λ (y : Cell). latest cs (chain_of y) j) (g.kept j h)
          ∙ latest_kept ds cs g (chain_of (at ds j)) j (omega arith);
    }

grows_take : (cs : List Cell) (m : ℕ) → m ≤ length cs → Grows (take m cs) cs
grows_take cs m h =
    let len : length (take m cs) ≡ m = length-take-le m cs h in
    record { longer = omega arith; kept = λ c l. sym (get_or-take m cs c (0, 0, 0) (omega arith)) }

pub cut_none : (ws : List ℕ) → WellFormed ws → Cut ws ws (count ws)
cut_none ws s =
    record {
      formed = s;
      count_is = refl;
      fewer = grows_refl (cells_of ws);
      switches_same = refl;
      working = λ i h l. refl;
      cleared = λ i h l. absurd (omega arith);
      beyond = λ i h. refl;
    }

-- one more is taken away
pub cut_more : (ws ws₁ ws₂ : List ℕ) (m : ℕ) → Cut ws ws₁ m → 2 < m → Less ws₁ ws₂ → Cut ws ws₂ (m - 1)
cut_more ws ws₁ ws₂ m x two p =
    let cs : List Cell = cells_of ws₁ in
    let n : ℕ = switches ws₁ in
    let cm : count ws₁ ≡ m = x.count_is in
    let len : length cs ≡ count ws₁ = length_cells ws₁ in
    let ds : List Cell = take (m - 1) cs in
    let dl : length ds ≡ m - 1 = length-take-le (m - 1) cs (omega arith) in
    let g : Grows ds cs = grows_take cs (m - 1) (omega arith) in
    let hh : chain_of (cell_at ws₁ (count ws₁ - 1)) < 64 = mod_below _ 64 (omega arith) in
    let l : Lies n ds ws₂ = popped_lies n ds cs ws₁ ws₂ x.formed.lies g (omega arith) (omega arith) p in
    let c : cells_of ws₂ ≡ ds = cells_of_laid n ds ws₂ l in
    let q : switches ws₂ ≡ n = l.switches_are in
    let w : Reduced n ds = front_reduced n ds cs g (omega arith) x.formed.reduced in
    let fw = x.fewer.longer in
    let len₀ = length_cells ws in
    record {
      formed = record {
        lies = subst (λ (k : ℕ). Lies k (cells_of ws₂) ws₂) (sym q) (subst (λ (y : List Cell). Lies n y ws₂) (sym c) l);
        reduced = subst (λ (k : ℕ). Reduced k (cells_of ws₂)) (sym q) (subst (Reduced n) (sym c) w);
      };
      count_is = omega (arith, p.count_now);
      fewer = subst (λ (y : List Cell). Grows y (cells_of ws)) (sym c) (grows_trans ds cs (cells_of ws) g x.fewer);
      switches_same = q ∙ x.switches_same;
      working = λ i lo hi. p.other i (λ e. omega arith) (λ e. omega arith) (inl (omega arith)) ∙ x.working i lo hi;
      cleared = λ i lo hi.
          ⊎_elim
          (λ (b : i < 1090 + 4 * m). p.clear i (omega arith) (omega arith))
          (λ (b : 1090 + 4 * m ≤ i). p.other i (λ e. omega arith) (λ e. omega arith) (inr (omega arith)) ∙ x.cleared i b hi)
          (cases_lt i (1090 + 4 * m));
      beyond = λ i h. p.other i (λ e. omega arith) (λ e. omega arith) (inr (omega arith)) ∙ x.beyond i h;
    }

-- words can be cut to any number of cells from two on
pub cut_down : (ws : List ℕ) → WellFormed ws → (d : ℕ) → d + 2 ≤ count ws → (ws' : List ℕ) × (length ws' ≡ length ws) × Cut ws ws' (count ws - d)
cut_down ws s zero h = let e : count ws ≡ count ws - 0 = omega arith in (ws, refl, subst (Cut ws ws) e (cut_none ws s))
cut_down ws s (suc d) h =
    let x = cut_down ws s d (omega arith) in
    let ws₁ : List ℕ = x.0 in
    let c : Cut ws ws₁ (count ws - d) = x.2 in
    let two : 2 < count ws₁ = omega (arith, c.count_is, h) in
    let p : Less ws₁ (popped ws₁) = popped_places ws₁ two (omega (arith, c.formed.lies.room, c.formed.lies.count_is)) in
    let e : count ws - d - 1 ≡ count ws - suc d = omega arith in
    (popped ws₁, p.length_now ∙ x.1, subst (Cut ws (popped ws₁)) e (cut_more ws ws₁ (popped ws₁) (count ws - d) c (omega (arith, h)) p))

-- words between operations are so when they are cut
pub cut_valid : (ws ws' : List ℕ) (m : ℕ) → Valid ws → length ws' ≡ length ws → Cut ws ws' m → Valid ws'
cut_valid ws ws' m v len c =
    record {
      formed = c.formed;
      idle = λ i lo hi. c.working i lo hi ∙ v.idle i lo hi;
      free = λ i lo hi. ⊎_elim
          (λ (b : i < 1090 + 4 * count ws). c.cleared i (omega (arith, lo, c.count_is)) b)
          (λ (b : 1090 + 4 * count ws ≤ i). c.beyond i b ∙ v.free i b (omega (arith, hi, ap (λ (n : ℕ). min 65535 ((n - 1090) / 4)) len)))
          (cases_lt i (1090 + 4 * count ws));
    }

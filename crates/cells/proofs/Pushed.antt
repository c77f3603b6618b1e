-- Adding a cell at the head of its chain.
use Rattle.std.proofs.Common.{◌≡◌, ℕ, zero, suc, ◌+◌, ◌*◌, ◌<◌, ◌≤◌, cond, ◌&&◌, eqb, ltb, ◌≢◌, ◌⊎◌, List, [], ◌∷◌, ◌++◌, length, get_or, set, Some, None, sym, refl, ap, ◌∙◌, subst, ap₂, inl, inr, ⊎_elim, arith}
use Rattle.std.proofs.lemmas.Nat.{mod_below}
use Rattle.std.proofs.lemmas.List.{length-set, get_or-set_same, get_or-set_other, length_push}
use Rattle.std.proofs.lemmas.Bool.{eq-eqb, ne_eqb, lt-ltb, and_from, and_right, cases_lt, cases_eq, cond-true, cond-false}
use Rattle.cells.specs.Cells.{Cell, at, Reduced, Grows, Sides, seek, node, placed}
use Rattle.cells.specs.Words.{switches, count, cell_at, next_at, cells_of, chain_of, latest, Lies, WellFormed, written, pushed, capacity, Stepped, OutOfRoom}
use Rattle.cells.proofs.Grow.{grows_refl, grows_push, at_push, push_reduced}
use Rattle.cells.proofs.Held.{seek_none, placed_held, node_one}
use Rattle.cells.proofs.Build.{placed_none}
use Rattle.cells.proofs.Chained.{cells_of_laid, length_cells}
use Rattle.cells.proofs.Written.{written_places, cell_stays}

-- what is at each place after a cell is added
pub record Places (ws ws' : List ℕ) (x : Cell) : Type 0 where
  pub count_now : count ws' ≡ count ws + 1
  pub head_now : get_or ws' (2 + chain_of x) 0 ≡ count ws
  pub cell_now : cell_at ws' (count ws) ≡ x
  pub next_now : next_at ws' (count ws) ≡ get_or ws (2 + chain_of x) 0
  pub length_now : length ws' ≡ length ws
  pub other : (i : ℕ) → i ≢ 1 → i ≢ 2 + chain_of x → (i < 1090 + 4 * count ws) ⊎ (1090 + 4 * count ws + 4 ≤ i) → get_or ws' i 0 ≡ get_or ws i 0

pub pushed_places : (ws : List ℕ) (x : Cell) → 1090 + 4 * count ws + 4 ≤ length ws → Places ws (pushed ws x) x
pushed_places ws x room =
    let p : ℕ = 1090 + 4 * count ws in
    let h : ℕ = 2 + chain_of x in
    let hh : chain_of x < 64 = mod_below _ 64 (omega arith) in
    let w = written_places ws (count ws) x (omega arith) in
    let l₂ : List ℕ = written ws (count ws) x in
    let l₃ : List ℕ = set l₂ (p + 3) (get_or ws h 0) in
    let l₄ : List ℕ = set l₃ h (count ws) in
    let l₅ : List ℕ = set l₄ 1 (count ws + 1) in
    let n₂ : length l₂ ≡ length ws = w.length_now in
    let n₃ : length l₃ ≡ length l₂ = length-set l₂ (p + 3) (get_or ws h 0) in
    let n₄ : length l₄ ≡ length l₃ = length-set l₃ h (count ws) in
    let n₅ : length l₅ ≡ length l₄ = length-set l₄ 1 (count ws + 1) in
    let top : (i : ℕ) → i ≢ 1 → i ≢ h → get_or l₅ i 0 ≡ get_or l₃ i 0 =
    λ i a b. get_or-set_other l₄ 1 i (count ws + 1) 0 a ∙ get_or-set_other l₃ h i (count ws) 0 b in
    let below : (j : ℕ) → j < 3 → get_or l₅ (p + j) 0 ≡ get_or l₂ (p + j) 0 =
    λ j b. top (p + j) (λ e. omega arith) (λ e. omega arith) ∙ get_or-set_other l₂ (p + 3) (p + j) _ 0 (λ e. omega arith) in
    record {
      count_now = get_or-set_same l₄ 1 (count ws + 1) 0 (omega arith);
      head_now = get_or-set_other l₄ 1 h (count ws + 1) 0 (λ e. omega arith) ∙ get_or-set_same l₃ h (count ws) 0 (omega arith);
      cell_now = cell_stays l₂ l₅ (count ws) below ∙ w.cell_now;
      next_now = top (p + 3) (λ e. omega arith) (λ e. omega arith) ∙ get_or-set_same l₂ (p + 3) (get_or ws h 0) 0 (omega arith);
      length_now = n₅ ∙ n₄ ∙ n₃ ∙ n₂;
      other = λ i a b o. top i a b ∙ get_or-set_other l₂ (p + 3) i _ 0 (λ e. omega arith)
          ∙ w.other i (⊎_elim (λ (l : i < p). inl l) (λ (l : p + 4 ≤ i). inr (omega arith)) o);
    }

pub latest_kept : (cs ds : List Cell) → Grows cs ds → (h m : ℕ) → m ≤ length cs → latest ds h m ≡ latest cs h m
unfolding latest
latest_kept cs ds g h zero l = refl
latest_kept cs ds g h (suc m) l =
    ap₂ (λ (y : Cell) (r : ℕ). cond (ltb 1 m && eqb (chain_of y) h) m r) (g.kept m l) (latest_kept cs ds g h m (omega arith))

pub latest_new : (ds : List Cell) (h m : ℕ) → 2 ≤ m → chain_of (at ds m) ≡ h → latest ds h (suc m) ≡ m
unfolding latest
latest_new ds h m l e = cond-true _ m (latest ds h m) (and_from _ _ (lt-ltb 1 m l) (eq-eqb _ _ e))

pub latest_same : (ds : List Cell) (h m : ℕ) → chain_of (at ds m) ≢ h → latest ds h (suc m) ≡ latest ds h m
unfolding latest
latest_same ds h m ne = cond-false _ m (latest ds h m) (and_right (ltb 1 m) _ (ne_eqb _ _ ne))

-- the cells lie in the words again, with the new one at their end
pub pushed_lies : (n : ℕ) (cs : List Cell) (ws ws' : List ℕ) (x : Cell) → Lies n cs ws → 2 ≤ length cs → length cs < 65535
    → 1090 + 4 * length cs + 4 ≤ length ws → Places ws ws' x → Lies n (cs ++ x ∷ []) ws'
pushed_lies n cs ws ws' x l two few room p =
    let ds : List Cell = cs ++ x ∷ [] in
    let g : Grows cs ds = grows_push cs x in
    let len : length ds ≡ length cs + 1 = length_push cs x in
    let len' : length ds ≡ suc (length cs) = omega arith in
    let m : count ws ≡ length cs = l.count_is in
    let hh : chain_of x < 64 = mod_below _ 64 (omega arith) in
    let last : (c : ℕ) → length cs ≤ c → c < length ds → c ≡ count ws = λ c a b. omega arith in
    let ax : at ds (length cs) ≡ x = at_push cs x in
    let cell-old : (c : ℕ) → c < length cs → cell_at ws' c ≡ cell_at ws c = λ c h.
    let q₀ = p.other (1090 + 4 * c) (λ e. omega arith) (λ e. omega arith) (inl (omega arith)) in
    let q₁ = p.other (1090 + 4 * c + 1) (λ e. omega arith) (λ e. omega arith) (inl (omega arith)) in
    let q₂ = p.other (1090 + 4 * c + 2) (λ e. omega arith) (λ e. omega arith) (inl (omega arith)) in
    (λ i. (q₀ i, q₁ i, q₂ i)) in
    record {
      switches_are = p.other 0 (λ e. omega arith) (λ e. omega arith) (inl (omega arith)) ∙ l.switches_are;
      count_is = omega (arith, p.count_now);
      room = omega (arith, p.length_now);
      few = omega arith;
      cells_are = λ c h.
          ⊎_elim
          (λ (b : c < length cs). cell-old c b ∙ l.cells_are c b ∙ sym (g.kept c b))
          (λ (b : length cs ≤ c).
          let e : count ws ≡ c = sym (last c b h) in
          subst (λ (j : ℕ). cell_at ws' j ≡ at ds j) e (p.cell_now ∙ sym ax ∙ ap (at ds) (sym m)))
          (cases_lt c (length cs));
      heads = λ h lt.
          ⊎_elim
          (λ (e : h ≡ chain_of x).
          subst (λ (j : ℕ). get_or ws' (2 + j) 0 ≡ latest ds j (length ds)) (sym e)
          (p.head_now ∙ m ∙ sym (latest_new ds (chain_of x) (length cs) two (ap chain_of ax)) ∙ ap (latest ds (chain_of x)) (sym len')))
          (λ (ne : h ≢ chain_of x).
          p.other (2 + h) (λ e. omega arith) (λ e. ne (omega arith)) (inl (omega arith))
          ∙ l.heads h lt ∙ sym (latest_kept cs ds g h (length cs) (omega arith))
          ∙ sym (latest_same ds h (length cs) (λ e. ne (sym e ∙ ap chain_of ax)))
          ∙ ap (latest ds h) (sym len'))
          (cases_eq h (chain_of x));
      nexts = λ c h.
          ⊎_elim
          (λ (b : c < length cs).
          p.other (1090 + 4 * c + 3) (λ e. omega arith) (λ e. omega arith) (inl (omega arith))
          ∙ l.nexts c b
          ∙ ap (λ (y : Cell). latest cs (chain_of y) c) (sym (g.kept c b))
          ∙ sym (latest_kept cs ds g (chain_of (at ds c)) c (omega arith)))
          (λ (b : length cs ≤ c).
          let e : length cs ≡ c = omega arith in
          let Q : ℕ → Type 0 = λ j. next_at ws' j ≡ latest ds (chain_of (at ds j)) j in
          subst Q e
          (ap (next_at ws') (sym m) ∙ p.next_now ∙ l.heads (chain_of x) hh
          ∙ sym (latest_kept cs ds g (chain_of x) (length cs) (omega arith))
          ∙ ap (λ (y : Cell). latest ds (chain_of y) (length cs)) (sym ax)))
          (cases_lt c (length cs));
    }

-- the three ways of a step: one side, a cell that is held, a new cell; and its refusal
pub stepped_one : (ws : List ℕ) → WellFormed ws → (i l h : ℕ) → l ≡ h → Stepped ws ws (node (cells_of ws) (i, l, h)) l
stepped_one ws s i l h e =
    record {
      formed = s;
      answers = sym (ap (λ (y : ℕ). node (cells_of ws) (i, l, y)) (sym e) ∙ node_one (cells_of ws) i l);
      grows = grows_refl (cells_of ws);
      switches_same = refl;
      beyond = λ i h. refl;
    }

node_placed : (cs : List Cell) (x : Cell) → x.1 ≢ x.2 → node cs x ≡ placed cs x (seek cs x (length cs))
unfolding node
node_placed cs x ne = cond-false _ _ _ (ne_eqb x.1 x.2 ne)

pub stepped_held : (ws : List ℕ) → WellFormed ws → (x : Cell) (r : ℕ) → x.1 ≢ x.2 → Some r ≡ seek (cells_of ws) x (count ws)
    → Stepped ws ws (node (cells_of ws) x) r
stepped_held ws s x r ne e =
    let cs : List Cell = cells_of ws in
    let f : Some r ≡ seek cs x (length cs) = e ∙ ap (seek cs x) (sym (length_cells ws)) in
    record {
      formed = s;
      answers = sym (node_placed cs x ne ∙ ap (placed cs x) (sym f) ∙ placed_held cs x r);
      grows = grows_refl cs;
      switches_same = refl;
      beyond = λ i h. refl;
    }

node_new : (ws : List ℕ) → (x : Cell) → x.1 ≢ x.2 → None ≡ seek (cells_of ws) x (count ws)
    → node (cells_of ws) x ≡ (cells_of ws ++ x ∷ [], length (cells_of ws))
node_new ws x ne e =
    let cs : List Cell = cells_of ws in
    let f : None ≡ seek cs x (length cs) = e ∙ ap (seek cs x) (sym (length_cells ws)) in
    node_placed cs x ne ∙ ap (placed cs x) (sym f) ∙ placed_none cs x

pub out_of_room : (ws : List ℕ) → WellFormed ws → (x : Cell) → x.1 ≢ x.2 → None ≡ seek (cells_of ws) x (count ws) → capacity ws ≤ count ws
    → OutOfRoom ws ws (node (cells_of ws) x)
out_of_room ws s x ne e full =
    let cs : List Cell = cells_of ws in
    let len : length (cs ++ x ∷ []) ≡ length cs + 1 = length_push cs x in
    let f : length (node cs x).0 ≡ length (cs ++ x ∷ []) = ap (λ (p : List Cell × ℕ). length p.0) (node_new ws x ne e) in
    let g = length_cells ws in
    record {
      full = omega arith;
      formed = s;
      grows = grows_refl cs;
      switches_same = refl;
      beyond = λ i h. refl;
    }

pub stepped_new : (ws ws' : List ℕ) → WellFormed ws → (x : Cell) → Sides (switches ws) (cells_of ws) x → x.1 ≢ x.2 → None ≡ seek (cells_of ws) x (count ws)
    → count ws < capacity ws → Places ws ws' x → Stepped ws ws' (node (cells_of ws) x) (count ws)
stepped_new ws ws' s x sd ne e room p =
    let cs : List Cell = cells_of ws in
    let n : ℕ = switches ws in
    let g : length cs ≡ count ws = length_cells ws in
    let f : None ≡ seek cs x (length cs) = e ∙ ap (seek cs x) (sym g) in
    let two : 2 ≤ length cs = s.reduced.two in
    let l : Lies n (cs ++ x ∷ []) ws' = pushed_lies n cs ws ws' x s.lies two (omega arith) (omega arith) p in
    let c : cells_of ws' ≡ cs ++ x ∷ [] = cells_of_laid n (cs ++ x ∷ []) ws' l in
    let w : Reduced n (cs ++ x ∷ []) =
    push_reduced n cs x s.reduced sd ne (seek_none cs x (length cs) (sym f)) in
    let q : switches ws' ≡ n = l.switches_are in
    record {
      formed = record {
        lies = subst (λ (m : ℕ). Lies m (cells_of ws') ws') (sym q) (subst (λ (y : List Cell). Lies n y ws') (sym c) l);
        reduced = subst (λ (m : ℕ). Reduced m (cells_of ws')) (sym q) (subst (Reduced n) (sym c) w);
      };
      answers = ap₂ (λ (y : List Cell) (m : ℕ). (y, m)) c (sym g) ∙ sym (node_new ws x ne e);
      grows = subst (Grows cs) (sym c) (grows_push cs x);
      switches_same = q;
      beyond = λ i h. p.other i (λ z. omega (arith, p.count_now)) (λ z. omega (arith, p.count_now, mod_below (x.0 + 3 * x.1 + 5 * x.2) 64 (omega arith)))
          (inr (omega (arith, p.count_now)));
    }

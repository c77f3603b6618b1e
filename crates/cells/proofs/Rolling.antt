-- Taking cells off: in two steps as at once, and back to where the cells were fewer.
use Rattle.std.proofs.Common.{◌≡◌, ℕ, ◌+◌, ◌-◌, ◌*◌, ◌/◌, ◌%◌, ◌<◌, ◌≤◌, min, Bool, true, false, cond, ◌&&◌, eqb, ltb, leb, ◌≢◌, ◌⊎◌, List, map, length, get_or, sym, refl, ap, ◌∙◌, subst, inl, inr, ⊎_elim, arith}
use Rattle.std.specs.List.{range_with_len}
use Rattle.std.proofs.lemmas.List.FromFn.{length-map-range_with_len, get_or-map-range_with_len, fill_by_all}
use Rattle.std.proofs.lemmas.List.{get_or_past}
use Rattle.std.proofs.lemmas.Bool.{cases_lt, cases_eq, leb-true, leb-false, ltb-true, ltb-false, eqb-true, eqb-false, lt-leb, le-ltb, ne_eqb, and_cases, and_parts, and_left, and_right, cond-false, cond_both}
use Rattle.cells.specs.Cells.{Cell, at, Grows}
use Rattle.cells.specs.Words.{switches, count, cell_at, next_at, cells_of, chain_of, latest, capacity, Valid, Cut}
use Rattle.cells.specs.Rolling.{first_cells, rolled_word, rolled}
use Rattle.cells.proofs.Chained.{length_cells, at_cells}
use Rattle.cells.proofs.Pushed.{latest_kept}
use Rattle.cells.proofs.Popped.{cut_down, cut_valid}

cond_same : {A : Type 0} (b : Bool) (x y z : A) → (b ≡ false → y ≡ z) → cond b x y ≡ cond b x z
cond_same true x y z h = refl
cond_same false x y z h = h refl

not_within : (f t i : ℕ) → (i < f) ⊎ (t ≤ i) → (leb f i && ltb i t) ≡ false
not_within f t i h = ⊎_elim
    (λ (l : i < f). and_left (leb f i) (ltb i t) (lt-leb f i l))
    (λ (l : t ≤ i). and_right (leb f i) (ltb i t) (le-ltb i t l))
    h

without : (f t i : ℕ) → (leb f i && ltb i t) ≡ false → (i < f) ⊎ (t ≤ i)
without f t i e = ⊎_elim
    (λ (x : leb f i ≡ false). inl (leb-false f i x))
    (λ (y : ltb i t ≡ false). inr (ltb-false i t y))
    (and_cases (leb f i) (ltb i t) e)

cells_same : (f g : ℕ → Cell) (k : ℕ) → ((c : ℕ) → c < k → f c ≡ g c) → map f (range_with_len 0 k) ≡ map g (range_with_len 0 k)
cells_same f g k h =
    fill_by_all g (map f (range_with_len 0 k)) k (0, 0, 0) (length-map-range_with_len f 0 k)
    (λ c lt. get_or-map-range_with_len f 0 k c c (0, 0, 0) lt (omega arith) ∙ h c lt)

pub length_rolled : (ws : List ℕ) (k : ℕ) → length (rolled ws k) ≡ length ws
length_rolled ws k = length-map-range_with_len (rolled_word ws k) 0 (length ws)

get_or_rolled : (ws : List ℕ) (k i : ℕ) → i < length ws → get_or (rolled ws k) i 0 ≡ rolled_word ws k i
get_or_rolled ws k i h = get_or-map-range_with_len (rolled_word ws k) 0 (length ws) i i 0 h (omega arith)

pub count_rolled : (ws : List ℕ) (k : ℕ) → 2 ≤ length ws → count (rolled ws k) ≡ k
count_rolled ws k h = get_or_rolled ws k 1 (omega arith)

-- a word that is neither the count, nor a chain head, nor of a cell taken off
plain : (ws : List ℕ) (k i : ℕ) → (i ≡ 1 → ⊥) → (i < 2) ⊎ (66 ≤ i) → (i < 1090 + 4 * k) ⊎ (1090 + 4 * capacity ws ≤ i)
    → get_or (rolled ws k) i 0 ≡ get_or ws i 0
plain ws k i ne head cell = ⊎_elim
    (λ (lt : i < length ws).
    get_or_rolled ws k i lt
    ∙ cond-false (eqb i 1) k _ (ne_eqb i 1 ne)
    ∙ cond-false (leb 2 i && ltb i 66) (latest (first_cells ws k) (i - 2) k) _ (not_within 2 66 i head)
    ∙ cond-false (leb (1090 + 4 * k) i && ltb i (1090 + 4 * capacity ws)) 0 (get_or ws i 0) (not_within (1090 + 4 * k) (1090 + 4 * capacity ws) i cell))
    (λ (le : length ws ≤ i). get_or_past (rolled ws k) i 0 (omega (arith, length_rolled ws k, le)) ∙ sym (get_or_past ws i 0 le))
    (cases_lt i (length ws))

first_rolled : (ws : List ℕ) (j k : ℕ) → k ≤ j → first_cells (rolled ws j) k ≡ first_cells ws k
first_rolled ws j k h = cells_same (cell_at (rolled ws j)) (cell_at ws) k (λ c lt.
    let q₀ = plain ws j (1090 + 4 * c) (λ e. omega arith) (inr (omega arith)) (inl (omega arith)) in
    let q₁ = plain ws j (1090 + 4 * c + 1) (λ e. omega arith) (inr (omega arith)) (inl (omega arith)) in
    let q₂ = plain ws j (1090 + 4 * c + 2) (λ e. omega arith) (inr (omega arith)) (inl (omega arith)) in
    (λ i. (q₀ i, q₁ i, q₂ i)))

capacity_rolled : (ws : List ℕ) (j : ℕ) → capacity (rolled ws j) ≡ capacity ws
capacity_rolled ws j = ap (λ (n : ℕ). min 65535 ((n - 1090) / 4)) (length_rolled ws j)

pub rolled_twice : (ws : List ℕ) (j k : ℕ) → k ≤ j → rolled (rolled ws j) k ≡ rolled ws k
rolled_twice ws j k h =
    fill_by_all (rolled_word ws k) (rolled (rolled ws j) k) (length ws) 0 (length_rolled (rolled ws j) k ∙ length_rolled ws j)
    (λ i lt. get_or_rolled (rolled ws j) k i (omega (arith, lt, length_rolled ws j)) ∙ word i)
  where
    word : (i : ℕ) → rolled_word (rolled ws j) k i ≡ rolled_word ws k i
    word i = cond_same (eqb i 1) k _ _ (λ e.
        ap (λ (cs : List Cell). cond (leb 2 i && ltb i 66) (latest cs (i - 2) k)
        (cond (leb (1090 + 4 * k) i && ltb i (1090 + 4 * capacity (rolled ws j))) 0 (get_or (rolled ws j) i 0))) (first_rolled ws j k h)
        ∙ cond_same (leb 2 i && ltb i 66) (latest (first_cells ws k) (i - 2) k) _ _ (λ f.
        ap (λ (n : ℕ). cond (leb (1090 + 4 * k) i && ltb i (1090 + 4 * n)) 0 (get_or (rolled ws j) i 0)) (capacity_rolled ws j)
        ∙ cond_same (leb (1090 + 4 * k) i && ltb i (1090 + 4 * capacity ws)) 0 _ _ (λ g.
        plain ws j i (eqb-false i 1 e) (without 2 66 i f)
        (⊎_elim (λ (l : i < 1090 + 4 * k). inl (omega (arith, l, h))) (λ (l : 1090 + 4 * capacity ws ≤ i). inr l)
        (without (1090 + 4 * k) (1090 + 4 * capacity ws) i g)))))

-- ws' has the cells of ws and further ones: taking these off gives ws
module _ (ws ws' : List ℕ) (v : Valid ws) (v' : Valid ws') (len : length ws' ≡ length ws) (n : switches ws' ≡ switches ws)
    (g : Grows (cells_of ws) (cells_of ws')) (past : (i : ℕ) → 1090 + 4 * capacity ws ≤ i → get_or ws' i 0 ≡ get_or ws i 0) where
  cap : capacity ws' ≡ capacity ws
  cap = ap (λ (m : ℕ). min 65535 ((m - 1090) / 4)) len

  more : count ws ≤ count ws'
  more = omega (arith, g.longer, length_cells ws, length_cells ws')

  cell_kept : (c : ℕ) → c < count ws → cell_at ws' c ≡ cell_at ws c
  cell_kept c h =
      sym (at_cells ws' c (omega (arith, h, more))) ∙ g.kept c (omega (arith, h, length_cells ws)) ∙ at_cells ws c h

  next_kept : (c : ℕ) → c < count ws → next_at ws' c ≡ next_at ws c
  next_kept c h =
      let l : c < length (cells_of ws) = omega (arith, h, length_cells ws) in
      v'.formed.lies.nexts c (omega (arith, l, g.longer))
      ∙ ap (λ (y : Cell). latest (cells_of ws') (chain_of y) c) (g.kept c l)
      ∙ latest_kept (cells_of ws) (cells_of ws') g (chain_of (at (cells_of ws) c)) c (omega (arith, l))
      ∙ sym (v.formed.lies.nexts c l)

  cell_word : (c j : ℕ) → c < count ws → j < 4 → get_or ws' (1090 + 4 * c + j) 0 ≡ get_or ws (1090 + 4 * c + j) 0
  cell_word c j h b =
      let e : cell_at ws' c ≡ cell_at ws c = cell_kept c h in
      let Q : ℕ → Type 0 = λ k. get_or ws' k 0 ≡ get_or ws k 0 in
      ⊎_elim (λ (z : 1090 + 4 * c + j ≡ 1090 + 4 * c). subst Q (sym z) (ap (λ (x : Cell). x.0) e))
      (λ (a₀ : 1090 + 4 * c + j ≢ 1090 + 4 * c).
      ⊎_elim (λ (z : 1090 + 4 * c + j ≡ 1090 + 4 * c + 1). subst Q (sym z) (ap (λ (x : Cell). x.1) e))
      (λ (a₁ : 1090 + 4 * c + j ≢ 1090 + 4 * c + 1).
      ⊎_elim (λ (z : 1090 + 4 * c + j ≡ 1090 + 4 * c + 2). subst Q (sym z) (ap (λ (x : Cell). x.2) e))
      (λ (a₂ : 1090 + 4 * c + j ≢ 1090 + 4 * c + 2).
      let z : 1090 + 4 * c + 3 ≡ 1090 + 4 * c + j = omega arith in
      subst Q z (next_kept c h))
      (cases_eq (1090 + 4 * c + j) (1090 + 4 * c + 2)))
      (cases_eq (1090 + 4 * c + j) (1090 + 4 * c + 1)))
      (cases_eq (1090 + 4 * c + j) (1090 + 4 * c))

  first_kept : first_cells ws' (count ws) ≡ cells_of ws
  unfolding cells_of
  first_kept = cells_same (cell_at ws') (cell_at ws) (count ws) cell_kept

  head : (i : ℕ) → 2 ≤ i → i < 66 → latest (first_cells ws' (count ws)) (i - 2) (count ws) ≡ get_or ws i 0
  head i lo hi =
      let e : 2 + (i - 2) ≡ i = omega arith in
      ap (λ (cs : List Cell). latest cs (i - 2) (count ws)) first_kept
      ∙ ap (latest (cells_of ws) (i - 2)) (sym (length_cells ws))
      ∙ sym (v.formed.lies.heads (i - 2) (omega arith))
      ∙ ap (λ (j : ℕ). get_or ws j 0) e

  other : (i : ℕ) → (i ≡ 1 → ⊥) → (i < 2) ⊎ (66 ≤ i) → (i < 1090 + 4 * count ws) ⊎ (1090 + 4 * capacity ws ≤ i) → get_or ws' i 0 ≡ get_or ws i 0
  other i ne front cell = ⊎_elim
      (λ (l : i < 2). let e : 0 ≡ i = omega (arith, l, ne) in subst (λ (j : ℕ). get_or ws' j 0 ≡ get_or ws j 0) e n)
      (λ (l : 66 ≤ i). ⊎_elim
      (λ (w : i < 1090). v'.idle i l w ∙ sym (v.idle i l w))
      (λ (w : 1090 ≤ i). ⊎_elim
      (λ (d : i < 1090 + 4 * count ws).
      let c : ℕ = (i - 1090) / 4 in
      let j : ℕ = (i - 1090) % 4 in
      let e : 1090 + 4 * c + j ≡ i = omega arith in
      subst (λ (k : ℕ). get_or ws' k 0 ≡ get_or ws k 0) e (cell_word c j (omega arith) (omega arith)))
      (λ (d : 1090 + 4 * capacity ws ≤ i). past i d)
      cell)
      (cases_lt i 1090))
      front

  word : (i : ℕ) → rolled_word ws' (count ws) i ≡ get_or ws i 0
  word i =
      cond_both (eqb i 1) (count ws) _ (λ (x : ℕ). x ≡ get_or ws i 0)
      (λ e. ap (λ (j : ℕ). get_or ws j 0) (sym (eqb-true i 1 e)))
      (λ e. cond_both (leb 2 i && ltb i 66) (latest (first_cells ws' (count ws)) (i - 2) (count ws)) _ (λ (x : ℕ). x ≡ get_or ws i 0)
      (λ t. let p = and_parts (leb 2 i) (ltb i 66) t in head i (leb-true 2 i p.0) (ltb-true i 66 p.1))
      (λ f. cond_both (leb (1090 + 4 * count ws) i && ltb i (1090 + 4 * capacity ws')) 0 (get_or ws' i 0) (λ (x : ℕ). x ≡ get_or ws i 0)
      (λ t. let p = and_parts (leb (1090 + 4 * count ws) i) (ltb i (1090 + 4 * capacity ws')) t in
      sym (v.free i (leb-true (1090 + 4 * count ws) i p.0) (omega (arith, ltb-true i (1090 + 4 * capacity ws') p.1, cap))))
      (λ u. other i (eqb-false i 1 e) (without 2 66 i f)
      (⊎_elim (λ (l : i < 1090 + 4 * count ws). inl l) (λ (l : 1090 + 4 * capacity ws' ≤ i). inr (omega (arith, l, cap)))
      (without (1090 + 4 * count ws) (1090 + 4 * capacity ws') i u)))))

  pub rolled_back : rolled ws' (count ws) ≡ ws
  rolled_back =
      ap (λ (m : ℕ). map (rolled_word ws' (count ws)) (range_with_len 0 m)) len
      ∙ sym (fill_by_all (rolled_word ws' (count ws)) ws (length ws) 0 refl (λ i h. sym (word i)))

-- a cut is what the cells taken off leave
pub rolled_cut : (ws ws' : List ℕ) (m : ℕ) → Valid ws → length ws' ≡ length ws → Cut ws ws' m → rolled ws m ≡ ws'
rolled_cut ws ws' m v len c =
    let fits : count ws ≤ capacity ws = omega (arith, v.formed.lies.few, v.formed.lies.room, v.formed.lies.count_is) in
    let same : capacity ws' ≡ capacity ws = ap (λ (n : ℕ). min 65535 ((n - 1090) / 4)) len in
    ap (rolled ws) (sym c.count_is)
    ∙ rolled_back ws' ws (cut_valid ws ws' m v len c) v (sym len) (sym c.switches_same) c.fewer
    (λ i h. sym (c.beyond i (omega (arith, h, fits, same))))

-- words between operations are so with cells taken off, but the first two
pub valid_rolled : (ws : List ℕ) → Valid ws → (m : ℕ) → 2 ≤ m → m ≤ count ws → Valid (rolled ws m)
valid_rolled ws v m two h =
    let x = cut_down ws v.formed (count ws - m) (omega (arith, two, h)) in
    let e : count ws - (count ws - m) ≡ m = omega (arith, h) in
    let c : Cut ws x.0 m = subst (Cut ws x.0) e x.2 in
    subst Valid (sym (rolled_cut ws x.0 m v x.1 c)) (cut_valid ws x.0 m v x.1 c)

-- The cells that lie in words, and the search along a chain.
use Rattle.std.proofs.Common.{◌≡◌, ℕ, zero, suc, ◌+◌, ◌<◌, ◌≤◌, max, Bool, true, false, ◌&&◌, eqb, ltb, ◌≢◌, List, length, get_or, Some, None, sym, refl, ap, ◌∙◌, subst, ⊎_elim, arith}
use Rattle.std.proofs.lemmas.Nat.{mod_below}
use Rattle.std.proofs.lemmas.List.FromFn.{length-map-range_with_len, get_or-map-range_with_len}
use Rattle.std.proofs.lemmas.List.{same_lists, get_or_default}
use Rattle.std.proofs.lemmas.Bool.{eq-eqb, eqb-true, ltb-true, lt-ltb, and_parts, and_from, cases_Bool, cases_lt, cases_eq, cond-true, cond-false}
use Rattle.cells.specs.Cells.{Cell, at, Reduced, same, seek}
use Rattle.cells.specs.Words.{switches, count, cell_at, next_at, cells_of, chain_of, latest, Lies, WellFormed, Searching}
use Rattle.cells.proofs.Held.{same_is, is_same, found_or_none, seek_there}
use Rattle.cells.proofs.Build.{not_end}

pub length_cells : (ws : List ℕ) → length (cells_of ws) ≡ count ws
unfolding cells_of
length_cells ws = length-map-range_with_len (cell_at ws) 0 (count ws)

pub at_cells : (ws : List ℕ) (c : ℕ) → c < count ws → at (cells_of ws) c ≡ cell_at ws c
unfolding cells_of
at_cells ws c h = get_or-map-range_with_len (cell_at ws) 0 (count ws) c c (0, 0, 0) h (omega arith)

-- the cells that lie in the words are those that are read from them
pub cells_of_laid : (n : ℕ) (cs : List Cell) (ws : List ℕ) → Lies n cs ws → cells_of ws ≡ cs
cells_of_laid n cs ws l =
    let len = length_cells ws in
    same_lists (cells_of ws) cs (len ∙ l.count_is)
    (λ k d h.
    let hk : k < length cs = omega (arith, l.count_is) in
    let hw : k < count ws = omega (arith, l.count_is) in
    get_or_default (cells_of ws) k d (0, 0, 0) h ∙ at_cells ws k hw ∙ l.cells_are k hk ∙ get_or_default cs k (0, 0, 0) d hk)

-- the newest cell of a chain, and what lies above it
pub latest_in : (cs : List Cell) (h m : ℕ) → latest cs h m ≢ 0 → (2 ≤ latest cs h m) × (latest cs h m < m) × (chain_of (at cs (latest cs h m)) ≡ h)
unfolding latest
latest_in cs h zero z = absurd (z refl)
latest_in cs h (suc m) z =
    let R : ℕ → Type 0 = λ r. (2 ≤ r) × (r < suc m) × (chain_of (at cs r) ≡ h) in
    let t : Bool = ltb 1 m && eqb (chain_of (at cs m)) h in
    ⊎_elim
    (λ (e : t ≡ true).
    let p = and_parts (ltb 1 m) (eqb (chain_of (at cs m)) h) e in
    subst R (sym (cond-true t m (latest cs h m) e))
    (ltb-true 1 m p.0, omega arith, eqb-true (chain_of (at cs m)) h p.1))
    (λ (e : t ≡ false).
    let f = cond-false t m (latest cs h m) e in
    let ih = latest_in cs h m (λ q. z (f ∙ q)) in
    subst R (sym f) (ih.0, omega (arith, ih.1), ih.2))
    (cases_Bool t)

pub latest_below : (cs : List Cell) (h m : ℕ) → 0 < m → latest cs h m < m
latest_below cs h m z =
    ⊎_elim (λ (e : latest cs h m ≡ 0). omega arith) (λ (e : latest cs h m ≢ 0). (latest_in cs h m e).1) (cases_eq (latest cs h m) 0)

-- cells above the newest of the chain of x are not x
pub seek_latest : (n : ℕ) (cs : List Cell) (x : Cell) → Reduced n cs → x.0 < n → (m : ℕ)
    → seek cs x m ≡ seek cs x (suc (latest cs (chain_of x) m))
unfolding seek latest
seek_latest n cs x w hs zero = sym (cond-false _ (Some 0) None (no_end 0 (omega arith)))
  where
    no_end : (c : ℕ) → c < 2 → same (at cs c) x ≡ false
    no_end c h =
        ⊎_elim (λ (e : same (at cs c) x ≡ true). absurd (not_end n cs x w hs c h (same_is (at cs c) x e)))
        (λ (e : same (at cs c) x ≡ false). e) (cases_Bool (same (at cs c) x))
seek_latest n cs x w hs (suc m) =
    let h : ℕ = chain_of x in
    let t : Bool = ltb 1 m && eqb (chain_of (at cs m)) h in
    ⊎_elim
    (λ (e : t ≡ true). ap (λ (c : ℕ). seek cs x (suc c)) (sym (cond-true t m (latest cs h m) e)))
    (λ (e : t ≡ false).
    let ih = seek_latest n cs x w hs m in
    let other : same (at cs m) x ≡ false =
    ⊎_elim
    (λ (s : same (at cs m) x ≡ true).
    let i : at cs m ≡ x = same_is (at cs m) x s in
    let j : eqb (chain_of (at cs m)) h ≡ true = eq-eqb _ _ (ap chain_of i) in
    ⊎_elim
    (λ (k : m < 2). absurd (not_end n cs x w hs m k i))
    (λ (k : 2 ≤ m).
    let u : true ≡ false = sym (and_from _ _ (lt-ltb 1 m k) j) ∙ e in
    let v : ◌≡◌ {A = ℕ} 0 1 = cc in absurd (omega arith))
    (cases_lt m 2))
    (λ (s : same (at cs m) x ≡ false). s)
    (cases_Bool (same (at cs m) x)) in
    cond-false _ (Some m) (seek cs x m) other ∙ ih ∙ ap (λ (c : ℕ). seek cs x (suc c)) (sym (cond-false t m (latest cs h m) e)))
    (cases_Bool t)

-- the search begins at the head of its chain
pub going_head : (n : ℕ) (cs : List Cell) (x : Cell) → Reduced n cs → x.0 < n → Searching cs x (latest cs (chain_of x) (length cs))
going_head n cs x w hs =
    record { left = seek_latest n cs x w hs (length cs); within = λ z. latest_in cs (chain_of x) (length cs) z }

-- and goes on to the next cell of it
pub going_next : (n : ℕ) (cs : List Cell) (x : Cell) → Reduced n cs → x.0 < n → (c : ℕ) → Searching cs x c → at cs c ≢ x
    → c < length cs → Searching cs x (latest cs (chain_of x) c)
unfolding seek
going_next n cs x w hs c g ne hc =
    let no : same (at cs c) x ≡ false =
    ⊎_elim (λ (e : same (at cs c) x ≡ true). absurd (ne (same_is (at cs c) x e)))
    (λ (e : same (at cs c) x ≡ false). e) (cases_Bool (same (at cs c) x)) in
    record {
      left = g.left ∙ cond-false _ (Some c) (seek cs x c) no ∙ seek_latest n cs x w hs c;
      within = λ z. let t = latest_in cs (chain_of x) c z in (t.0, omega (arith, t.1), t.2);
    }

pub going_found : (cs : List Cell) (x : Cell) (c : ℕ) → Searching cs x c → at cs c ≡ x → seek cs x (length cs) ≡ Some c
unfolding seek
going_found cs x c g e = g.left ∙ cond-true _ (Some c) (seek cs x c) (is_same (at cs c) x e)

-- the same of the words
pub start : (ws : List ℕ) → WellFormed ws → (x : Cell) → x.0 < switches ws → Searching (cells_of ws) x (get_or ws (2 + chain_of x) 0)
start ws s x hs =
    subst (Searching (cells_of ws) x) (sym (s.lies.heads (chain_of x) (mod_below _ 64 (omega arith))))
    (going_head (switches ws) (cells_of ws) x s.reduced hs)

pub next_is_found : (ws : List ℕ) → WellFormed ws → (x : Cell) (c : ℕ) → Searching (cells_of ws) x c → c ≢ 0 → next_at ws c ≡ latest (cells_of ws) (chain_of x) c
next_is_found ws s x c g z =
    let t = g.within z in
    s.lies.nexts c t.1 ∙ ap (λ (h : ℕ). latest (cells_of ws) h c) t.2

pub next_less : (ws : List ℕ) → WellFormed ws → (x : Cell) (c : ℕ) → Searching (cells_of ws) x c → c ≢ 0 → next_at ws c < c
next_less ws s x c g z = omega (arith, next_is_found ws s x c g z, latest_below (cells_of ws) (chain_of x) c (omega arith))

pub go_on : (ws : List ℕ) → WellFormed ws → (x : Cell) (c : ℕ) → x.0 < switches ws → Searching (cells_of ws) x c → c ≢ 0 → cell_at ws c ≢ x
    → Searching (cells_of ws) x (next_at ws c)
go_on ws s x c hs g z ne =
    let t = g.within z in
    let e : at (cells_of ws) c ≡ cell_at ws c = at_cells ws c (omega (arith, t.1, length_cells ws)) in
    subst (Searching (cells_of ws) x) (sym (next_is_found ws s x c g z))
    (going_next (switches ws) (cells_of ws) x s.reduced hs c g (λ q. ne (sym e ∙ q)) t.1)

pub found : (ws : List ℕ) → (x : Cell) (c : ℕ) → Searching (cells_of ws) x c → c ≢ 0 → cell_at ws c ≡ x → Some c ≡ seek (cells_of ws) x (count ws)
found ws x c g z e =
    let t = g.within z in
    let f : at (cells_of ws) c ≡ cell_at ws c = at_cells ws c (omega (arith, t.1, length_cells ws)) in
    sym (going_found (cells_of ws) x c g (f ∙ e)) ∙ ap (seek (cells_of ws) x) (length_cells ws)

-- a cell has a higher number than its sides, so that a search ends at the higher of them
pub not_found : (ws : List ℕ) → WellFormed ws → (x : Cell) (c : ℕ) → x.0 < switches ws → Searching (cells_of ws) x c → c ≤ max x.1 x.2
    → None ≡ seek (cells_of ws) x (count ws)
not_found ws s x c hs g h =
    let cs : List Cell = cells_of ws in
    let none : seek cs x (suc c) ≡ None =
    ⊎_elim (λ (z : seek cs x (suc c) ≡ None). z)
    (λ (z : (m : ℕ) × (seek cs x (suc c) ≡ Some m)).
    let m : ℕ = z.0 in
    let t = seek_there cs x (suc c) m z.1 in
    let two : 2 ≤ m =
    ⊎_elim (λ (l : m < 2). absurd (not_end (switches ws) cs x s.reduced hs m l t.1)) (λ (l : 2 ≤ m). l) (cases_lt m 2) in
    let there = g.within (λ q. omega (arith, t.0, two, q)) in
    let o = s.reduced.ordered m two (omega (arith, t.0, there.1)) in
    absurd (omega (arith, t.0, o.low, o.high, ap (λ (y : Cell). y.1) t.1, ap (λ (y : Cell). y.2) t.1, h)))
    (found_or_none (seek cs x (suc c))) in
    sym (g.left ∙ none) ∙ ap (seek cs x) (length_cells ws)

-- A set that is held is found and adds nothing, so two cells with one set are one cell.
use Rattle.std.proofs.Common.{◌≡◌, ℕ, zero, suc, ◌+◌, ◌*◌, ◌^◌, ◌<◌, ◌≤◌, Bool, true, false, cond, ◌&&◌, eqb, ◌≢◌, ◌⊎◌, List, length, Some, None, Option, sym, refl, ap, ◌∙◌, subst, inl, inr, ⊎_elim, pow-suc, arith}
use Rattle.std.proofs.lemmas.Nat.{pow_pos}
use Rattle.std.proofs.lemmas.Bool.{eq-eqb, ne_eqb, eqb-true, and_parts, and_from, cases_Bool, cases_lt, cases_eq, cond-true, cond-false}
use Rattle.cells.specs.Cells.{Cell, at, walk, mean, level, Ordered, Reduced, same, seek, placed, node, build, Canonical}
use Rattle.cells.proofs.Mean.{mean_low, mean_high, walk_above}

pub same_is : (x y : Cell) → same x y ≡ true → x ≡ y
same_is x y e =
    let p = and_parts (eqb x.0 y.0) (eqb x.1 y.1 && eqb x.2 y.2) e in
    let q = and_parts (eqb x.1 y.1) (eqb x.2 y.2) p.1 in
    let a = eqb-true x.0 y.0 p.0 in
    let b = eqb-true x.1 y.1 q.0 in
    let c = eqb-true x.2 y.2 q.1 in
    λ i. (a i, b i, c i)

pub is_same : (x y : Cell) → x ≡ y → same x y ≡ true
is_same x y e =
    and_from _ _ (eq-eqb x.0 y.0 (ap (λ (z : Cell). z.0) e))
    (and_from _ _ (eq-eqb x.1 y.1 (ap (λ (z : Cell). z.1) e)) (eq-eqb x.2 y.2 (ap (λ (z : Cell). z.2) e)))

some_same : {a b : ℕ} → ◌≡◌ {A = Option ℕ} (Some a) (Some b) → a ≡ b
some_same e = cc

pub none_not_some : {a : ℕ} → ◌≡◌ {A = Option ℕ} None (Some a) → ⊥
none_not_some e = let z : ◌≡◌ {A = ℕ} 0 1 = cc in omega arith

pub found_or_none : (o : Option ℕ) → (o ≡ None) ⊎ ((c : ℕ) × (o ≡ Some c))
found_or_none None = inl refl
found_or_none (Some c) = inr (c, refl)

-- what is found is there
pub seek_there : (cs : List Cell) (x : Cell) (m c : ℕ) → seek cs x m ≡ Some c → (c < m) × (at cs c ≡ x)
unfolding seek
seek_there cs x zero c h = absurd (none_not_some h)
seek_there cs x (suc m) c h =
    let R : ℕ → Type 0 = λ r. (r < suc m) × (at cs r ≡ x) in
    ⊎_elim
    (λ (e : same (at cs m) x ≡ true).
    subst R (some_same (sym (cond-true _ (Some m) (seek cs x m) e) ∙ h)) (omega arith, same_is (at cs m) x e))
    (λ (e : same (at cs m) x ≡ false).
    let ih = seek_there cs x m c (sym (cond-false _ (Some m) (seek cs x m) e) ∙ h) in (omega (arith, ih.0), ih.1))
    (cases_Bool (same (at cs m) x))

-- what is not found is not there
pub seek_none : (cs : List Cell) (x : Cell) (m : ℕ) → seek cs x m ≡ None → (c : ℕ) → c < m → at cs c ≢ x
unfolding seek
seek_none cs x zero h c hc = absurd (omega arith)
seek_none cs x (suc m) h c hc =
    ⊎_elim
    (λ (e : same (at cs m) x ≡ true). absurd (none_not_some (sym h ∙ cond-true _ (Some m) (seek cs x m) e)))
    (λ (e : same (at cs m) x ≡ false).
    let f : seek cs x m ≡ None = sym (cond-false _ (Some m) (seek cs x m) e) ∙ h in
    ⊎_elim
    (λ (l : c < m). seek_none cs x m f c l)
    (λ (l : m ≤ c). λ q.
    let cm : c ≡ m = omega arith in
    let t : same (at cs m) x ≡ true = is_same (at cs m) x (subst (λ (j : ℕ). at cs j ≡ x) cm q) in
    let u : true ≡ false = sym t ∙ e in
    let v : ◌≡◌ {A = ℕ} 0 1 = cc in omega arith)
    (cases_lt c m))
    (cases_Bool (same (at cs m) x))

-- the one that is there is found
pub seek_is : (n : ℕ) (cs : List Cell) → Reduced n cs → (x : Cell) (c : ℕ) → c < length cs → at cs c ≡ x → seek cs x (length cs) ≡ Some c
seek_is n cs w x c hc e =
    ⊎_elim
    (λ (z : seek cs x (length cs) ≡ None). absurd (seek_none cs x (length cs) z c hc e))
    (λ (z : (d : ℕ) × (seek cs x (length cs) ≡ Some d)).
    let t = seek_there cs x (length cs) z.0 z.1 in
    z.1 ∙ ap Some (w.apart z.0 c t.0 hc (t.1 ∙ sym e)))
    (found_or_none (seek cs x (length cs)))

pub placed_held : (cs : List Cell) (x : Cell) (c : ℕ) → placed cs x (Some c) ≡ (cs, c)
unfolding placed
placed_held cs x c = refl

pub node_one : (cs : List Cell) (i r : ℕ) → node cs (i, r, r) ≡ (cs, r)
unfolding node
node_one cs i r = cond-true (eqb r r) _ _ (eq-eqb r r refl)

pub node_held : (n : ℕ) (cs : List Cell) → Reduced n cs → (c : ℕ) → 2 ≤ c → c < length cs → node cs (at cs c) ≡ (cs, c)
unfolding node
node_held n cs w c h hc =
    let o : Ordered n cs c = w.ordered c h hc in
    cond-false _ (cs, (at cs c).1) (placed cs (at cs c) (seek cs (at cs c) (length cs))) (ne_eqb (at cs c).1 (at cs c).2 o.differ)
    ∙ ap (placed cs (at cs c)) (seek_is n cs w (at cs c) c hc refl)
    ∙ placed_held cs (at cs c) c

-- a cell above level 0 asks a switch
pub level_suc : (cs : List Cell) (r i : ℕ) → level cs r ≡ suc i → (2 ≤ r) × ((at cs r).0 ≡ i)
unfolding level
level_suc cs zero i h = absurd (omega arith)
level_suc cs (suc zero) i h = absurd (omega arith)
level_suc cs (suc (suc m)) i h = (omega arith, omega arith)

held_zero : (cs : List Cell) (f : ℕ → Bool) (r : ℕ) → level cs r ≤ 0 → f 0 ≡ mean cs r 0 → build cs 0 f ≡ (cs, r)
unfolding build walk level
held_zero cs f zero h e = ap (λ (b : Bool). (cs, cond b 1 0)) e
held_zero cs f (suc zero) h e = ap (λ (b : Bool). (cs, cond b 1 0)) e
held_zero cs f (suc (suc m)) h e = absurd (omega arith)

-- a set that is held is found, and nothing is added
pub held : (n : ℕ) (cs : List Cell) → Reduced n cs → (i : ℕ) (f : ℕ → Bool) (r : ℕ) → r < length cs → level cs r ≤ i
    → ((k : ℕ) → k < 2 ^ i → f k ≡ mean cs r k) → build cs i f ≡ (cs, r)
unfolding build
held n cs w zero f r hr hl e = held_zero cs f r hl (e 0 (pow_pos 0))
held n cs w (suc i) f r hr hl e =
    let s : 2 ^ suc i ≡ 2 ^ i * 2 = pow-suc 2 i in
    ⊎_elim
    (λ (t : level cs r ≡ suc i).
    let q = level_suc cs r i t in
    let o : Ordered n cs r = w.ordered r q.0 hr in
    let v : 2 ^ (at cs r).0 ≡ 2 ^ i = ap (λ (x : ℕ). 2 ^ x) q.1 in
    let l : build cs i f ≡ (cs, (at cs r).1) =
    held n cs w i f (at cs r).1 (omega (arith, o.low)) (omega (arith, o.low_level, q.1))
    (λ k h. e k (omega arith) ∙ mean_low n cs w r k q.0 hr (omega arith)) in
    let m : (k : ℕ) → k < 2 ^ i → mean cs r (2 ^ i + k) ≡ mean cs (at cs r).2 k =
    λ k h. ap (λ (x : ℕ). mean cs r (x + k)) (sym v) ∙ mean_high n cs w r k q.0 hr (omega arith) in
    let g : build cs i (λ k. f (2 ^ i + k)) ≡ (cs, (at cs r).2) =
    held n cs w i (λ k. f (2 ^ i + k)) (at cs r).2 (omega (arith, o.high)) (omega (arith, o.high_level, q.1))
    (λ k h. e (2 ^ i + k) (omega arith) ∙ m k h) in
    let x : (i, (at cs r).1, (at cs r).2) ≡ at cs r = ap (λ (z : ℕ). (z, (at cs r).1, (at cs r).2)) (sym q.1) in
    simp (l, g) (ap (node cs) x ∙ node_held n cs w r q.0 hr))
    (λ (t : level cs r ≢ suc i).
    let t : level cs r ≤ i = omega arith in
    let l : build cs i f ≡ (cs, r) = held n cs w i f r hr t (λ k h. e k (omega arith)) in
    let h : build cs i (λ k. f (2 ^ i + k)) ≡ (cs, r) =
    held n cs w i (λ k. f (2 ^ i + k)) r hr t (λ k h. e (2 ^ i + k) (omega arith) ∙ walk_above n cs w r r i k hr t) in
    simp (l, h) (node_one cs i r))
    (cases_eq (level cs r) (suc i))

pub level_within : (n : ℕ) (cs : List Cell) → Reduced n cs → (c : ℕ) → c < length cs → level cs c ≤ n
unfolding level
level_within n cs w zero h = omega arith
level_within n cs w (suc zero) h = omega arith
level_within n cs w (suc (suc m)) h = (w.ordered (suc (suc m)) (omega arith) h).switch

-- two cells with one set are one cell
pub canonical : Canonical
canonical n cs w c d hc hd e =
    let p = held n cs w n (mean cs c) c hc (level_within n cs w c hc) (λ k h. refl) in
    let q = held n cs w n (mean cs c) d hd (level_within n cs w d hd) e in
    ap (λ (x : List Cell × ℕ). x.1) (sym p ∙ q)

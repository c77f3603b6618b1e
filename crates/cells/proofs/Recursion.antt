-- An operation on two cells by their sides at the highest switch that they ask.
use Rattle.std.proofs.Common.{◌≡◌, ℕ, zero, suc, ◌+◌, ◌-◌, ◌^◌, ◌<◌, ◌≤◌, Bool, ◌≢◌, List, length, sym, refl, ap, ◌∙◌, subst, ap₂, ⊎_elim, add-zero, add-suc, arith}
use Rattle.std.proofs.lemmas.Bool.{eq-eqb, ne_eqb, cases_eq, cond-true, cond-false}
use Rattle.cells.specs.Cells.{Cell, at, mean, level, Ordered, Reduced, node, build, Grows, Made, Sides, low_at, high_at, joint, applied}
use Rattle.cells.proofs.Mean.{mean_low, mean_high, walk_above}
use Rattle.cells.proofs.Held.{level_suc, level_within, held}
use Rattle.cells.proofs.Grow.{walk_kept, level_kept}
use Rattle.cells.proofs.Build.{build_made, build_ext, build_drop, node_made}

-- switches from i on that a set does not ask add nothing
pub build_down : (n : ℕ) (cs : List Cell) → Reduced n cs → (i d : ℕ) (f : ℕ → Bool) → i + d ≤ n
    → ((m k : ℕ) → i ≤ m → k < 2 ^ m → f (2 ^ m + k) ≡ f k) → build cs (i + d) f ≡ build cs i f
build_down n cs w i zero f h e = ap (λ (z : ℕ). build cs z f) (add-zero i)
build_down n cs w i (suc d) f h e =
    ap (λ (z : ℕ). build cs z f) (add-suc i d)
    ∙ build_drop n cs w (i + d) f (omega arith) (λ k l. e (i + d) k (omega arith) l)
    ∙ build_down n cs w i d f (omega arith) e

-- what holds of a side
pub record Side (cs : List Cell) (s c d : ℕ) (f : ℕ → Bool) : Type 0 where
  pub there : d < length cs
  pub flat : level cs d ≤ s
  pub means : (k : ℕ) → k < 2 ^ s → f k ≡ mean cs d k

pub low_side : (n : ℕ) (cs : List Cell) → Reduced n cs → (s c : ℕ) → c < length cs → level cs c ≤ suc s → Side cs s c (low_at cs s c) (mean cs c)
unfolding low_at
low_side n cs w s c hc hl =
    let P : ℕ → Type 0 = λ d. Side cs s c d (mean cs c) in
    ⊎_elim
    (λ (e : level cs c ≡ suc s).
    let q = level_suc cs c s e in
    let o : Ordered n cs c = w.ordered c q.0 hc in
    let v : 2 ^ (at cs c).0 ≡ 2 ^ s = ap (λ (x : ℕ). 2 ^ x) q.1 in
    subst P (sym (cond-true _ _ _ (eq-eqb _ _ e)))
    (record {
      there = omega (arith, o.low);
      flat = omega (arith, o.low_level, q.1);
      means = λ k h. mean_low n cs w c k q.0 hc (omega arith);
    }))
    (λ (e : level cs c ≢ suc s).
    subst P (sym (cond-false _ _ _ (ne_eqb _ _ e))) (record { there = hc; flat = omega arith; means = λ k h. refl }))
    (cases_eq (level cs c) (suc s))

pub high_side : (n : ℕ) (cs : List Cell) → Reduced n cs → (s c : ℕ) → c < length cs → level cs c ≤ suc s
    → Side cs s c (high_at cs s c) (λ k. mean cs c (2 ^ s + k))
unfolding high_at
high_side n cs w s c hc hl =
    let P : ℕ → Type 0 = λ d. Side cs s c d (λ k. mean cs c (2 ^ s + k)) in
    ⊎_elim
    (λ (e : level cs c ≡ suc s).
    let q = level_suc cs c s e in
    let o : Ordered n cs c = w.ordered c q.0 hc in
    let v : 2 ^ (at cs c).0 ≡ 2 ^ s = ap (λ (x : ℕ). 2 ^ x) q.1 in
    subst P (sym (cond-true _ _ _ (eq-eqb _ _ e)))
    (record {
      there = omega (arith, o.high);
      flat = omega (arith, o.high_level, q.1);
      means = λ k h. ap (λ (x : ℕ). mean cs c (x + k)) (sym v) ∙ mean_high n cs w c k q.0 hc (omega arith);
    }))
    (λ (e : level cs c ≢ suc s).
    subst P (sym (cond-false _ _ _ (ne_eqb _ _ e)))
    (record { there = hc; flat = omega arith; means = λ k h. walk_above n cs w c c s k hc (omega arith) }))
    (cases_eq (level cs c) (suc s))

-- an operation asks no switch at or above the levels of its cells
pub applied_down : (op : Bool → Bool → Bool) (n : ℕ) (cs : List Cell) → Reduced n cs → (s a b : ℕ) → s ≤ n
    → a < length cs → b < length cs → level cs a ≤ s → level cs b ≤ s → applied op n cs a b ≡ build cs s (joint op cs a b)
applied_down op n cs w s a b hs ha hb la lb =
    let d : ℕ = n - s in
    let e : s + d ≡ n = omega arith in
    ap (λ (z : ℕ). build cs z (joint op cs a b)) (sym e)
    ∙ build_down n cs w s d (joint op cs a b) (omega arith)
    (λ m k h l. ap₂ op (walk_above n cs w a a m k ha (omega arith)) (walk_above n cs w b b m k hb (omega arith)))

-- the step of the recursion: low side, high side, then the cell
pub applied_step : (op : Bool → Bool → Bool) (n : ℕ) (cs : List Cell) → Reduced n cs → (s a b : ℕ) → s < n
    → a < length cs → b < length cs → level cs a ≤ suc s → level cs b ≤ suc s
    → (p q : List Cell × ℕ)
    → p ≡ applied op n cs (low_at cs s a) (low_at cs s b)
    → q ≡ applied op n p.0 (high_at cs s a) (high_at cs s b)
    → applied op n cs a b ≡ node q.0 (s, p.1, q.1)
unfolding build
applied_step op n cs w s a b hs ha hb la lb p q ep eq =
    let al = low_side n cs w s a ha la in
    let bl = low_side n cs w s b hb lb in
    let ah = high_side n cs w s a ha la in
    let bh = high_side n cs w s b hb lb in
    let f : ℕ → Bool = joint op cs a b in
    let l : build cs s f ≡ p =
    build_ext cs s f (joint op cs (low_at cs s a) (low_at cs s b)) (λ k h. ap₂ op (al.means k h) (bl.means k h))
    ∙ sym (applied_down op n cs w s (low_at cs s a) (low_at cs s b) (omega arith) al.there bl.there al.flat bl.flat)
    ∙ sym ep in
    let m : Made n cs s f p = subst (Made n cs s f) l (build_made n cs w s f (omega arith)) in
    let g : Grows cs p.0 = m.grows in
    let h : build p.0 s (λ k. f (2 ^ s + k)) ≡ q =
    build_ext p.0 s (λ k. f (2 ^ s + k)) (joint op p.0 (high_at cs s a) (high_at cs s b))
    (λ k h. ap₂ op
    (ah.means k h ∙ sym (walk_kept n cs p.0 w g (high_at cs s a) (high_at cs s a) k ah.there))
    (bh.means k h ∙ sym (walk_kept n cs p.0 w g (high_at cs s b) (high_at cs s b) k bh.there)))
    ∙ sym (applied_down op n p.0 m.reduced s (high_at cs s a) (high_at cs s b) (omega arith)
    (omega (arith, g.longer, ah.there)) (omega (arith, g.longer, bh.there))
    (omega (arith, level_kept cs p.0 g (high_at cs s a) ah.there, ah.flat))
    (omega (arith, level_kept cs p.0 g (high_at cs s b) bh.there, bh.flat)))
    ∙ sym eq in
    applied_down op n cs w (suc s) a b hs ha hb la lb ∙ simp (l, h)

-- an answer that is held
pub applied_held : (op : Bool → Bool → Bool) (n : ℕ) (cs : List Cell) → Reduced n cs → (a b r : ℕ) → r < length cs
    → ((k : ℕ) → k < 2 ^ n → op (mean cs a k) (mean cs b k) ≡ mean cs r k) → applied op n cs a b ≡ (cs, r)
applied_held op n cs w a b r hr e = held n cs w n (joint op cs a b) r hr (level_within n cs w r hr) e

-- what an operation leaves at a level that is enough
pub made_at : (op : Bool → Bool → Bool) (n : ℕ) (cs : List Cell) → Reduced n cs → (s a b : ℕ) → s ≤ n
    → a < length cs → b < length cs → level cs a ≤ s → level cs b ≤ s → Made n cs s (joint op cs a b) (applied op n cs a b)
made_at op n cs w s a b hs ha hb la lb =
    subst (Made n cs s (joint op cs a b)) (sym (applied_down op n cs w s a b hs ha hb la lb)) (build_made n cs w s (joint op cs a b) hs)

-- all that the recursion asks and gives
pub record Step (op : Bool → Bool → Bool) (n : ℕ) (cs : List Cell) (s a b : ℕ) : Type 0 where
  pub low_a : low_at cs s a < length cs
  pub low_b : low_at cs s b < length cs
  pub high_a : high_at cs s a < length cs
  pub high_b : high_at cs s b < length cs
  pub first : (p : List Cell × ℕ) → p ≡ applied op n cs (low_at cs s a) (low_at cs s b)
      → (Reduced n p.0) × (Grows cs p.0) × (length p.0 ≤ length (applied op n cs a b).0)
  pub second : (p q : List Cell × ℕ) → p ≡ applied op n cs (low_at cs s a) (low_at cs s b)
      → q ≡ applied op n p.0 (high_at cs s a) (high_at cs s b)
      → (Sides n q.0 (s, p.1, q.1)) × (Grows p.0 q.0) × (length q.0 ≤ length (applied op n cs a b).0)
      × (applied op n cs a b ≡ node q.0 (s, p.1, q.1))

second_of : (op : Bool → Bool → Bool) (n : ℕ) (cs : List Cell) → Reduced n cs → (s a b : ℕ) → s < n
    → a < length cs → b < length cs → level cs a ≤ suc s → level cs b ≤ suc s
    → (p q : List Cell × ℕ) → p ≡ applied op n cs (low_at cs s a) (low_at cs s b)
    → q ≡ applied op n p.0 (high_at cs s a) (high_at cs s b)
    → (Sides n q.0 (s, p.1, q.1)) × (Grows p.0 q.0) × (length q.0 ≤ length (applied op n cs a b).0)
    × (applied op n cs a b ≡ node q.0 (s, p.1, q.1))
second_of op n cs w s a b hs ha hb la lb p q ep eq =
    let al = low_side n cs w s a ha la in
    let bl = low_side n cs w s b hb lb in
    let ah = high_side n cs w s a ha la in
    let bh = high_side n cs w s b hb lb in
    let m : Made n cs s (joint op cs (low_at cs s a) (low_at cs s b)) p =
    subst (Made n cs s (joint op cs (low_at cs s a) (low_at cs s b))) (sym ep)
    (made_at op n cs w s (low_at cs s a) (low_at cs s b) (omega arith) al.there bl.there al.flat bl.flat) in
    let g : Grows cs p.0 = m.grows in
    let k : Made n p.0 s (joint op p.0 (high_at cs s a) (high_at cs s b)) q =
    subst (Made n p.0 s (joint op p.0 (high_at cs s a) (high_at cs s b))) (sym eq)
    (made_at op n p.0 m.reduced s (high_at cs s a) (high_at cs s b) (omega arith)
    (omega (arith, g.longer, ah.there)) (omega (arith, g.longer, bh.there))
    (omega (arith, level_kept cs p.0 g (high_at cs s a) ah.there, ah.flat))
    (omega (arith, level_kept cs p.0 g (high_at cs s b) bh.there, bh.flat))) in
    let x : Cell = (s, p.1, q.1) in
    let sd : Sides n q.0 x =
    record {
      switch = hs;
      low = omega (arith, k.grows.longer, m.there);
      high = k.there;
      low_level = omega (arith, level_kept p.0 q.0 k.grows p.1 m.there, m.flat);
      high_level = k.flat;
    } in
    let e : applied op n cs a b ≡ node q.0 x = applied_step op n cs w s a b hs ha hb la lb p q ep eq in
    let f : length (applied op n cs a b).0 ≡ length (node q.0 x).0 = ap (λ (y : List Cell × ℕ). length y.0) e in
    (sd, k.grows, omega (arith, f, (node_made n q.0 x k.reduced sd).grows.longer), e)

pub step : (op : Bool → Bool → Bool) (n : ℕ) (cs : List Cell) → Reduced n cs → (s a b : ℕ) → s < n
    → a < length cs → b < length cs → level cs a ≤ suc s → level cs b ≤ suc s → Step op n cs s a b
step op n cs w s a b hs ha hb la lb =
    record {
      low_a = (low_side n cs w s a ha la).there;
      low_b = (low_side n cs w s b hb lb).there;
      high_a = (high_side n cs w s a ha la).there;
      high_b = (high_side n cs w s b hb lb).there;
      first = λ p ep.
          let al = low_side n cs w s a ha la in
          let bl = low_side n cs w s b hb lb in
          let m : Made n cs s (joint op cs (low_at cs s a) (low_at cs s b)) p =
          subst (Made n cs s (joint op cs (low_at cs s a) (low_at cs s b))) (sym ep)
          (made_at op n cs w s (low_at cs s a) (low_at cs s b) (omega arith) al.there bl.there al.flat bl.flat) in
          let t = second_of op n cs w s a b hs ha hb la lb p (applied op n p.0 (high_at cs s a) (high_at cs s b)) ep refl in
          (m.reduced, m.grows, omega (arith, t.1.longer, t.2));
      second = second_of op n cs w s a b hs ha hb la lb;
    }

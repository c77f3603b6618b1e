-- The reduced diagram that is built means its set, and only the configurations below 2^i count.
use Rattle.std.proofs.Common.{◌≡◌, ℕ, zero, suc, ◌+◌, ◌-◌, ◌*◌, ◌^◌, ◌<◌, ◌≤◌, Bool, true, false, cond, eqb, ◌≢◌, List, [], ◌∷◌, ◌++◌, length, Some, None, Option, sym, refl, ap, ◌∙◌, subst, ap₂, ⊎_elim, pow-suc, arith}
use Rattle.std.proofs.lemmas.Nat.{pow_pos}
use Rattle.std.proofs.lemmas.List.{length_push}
use Rattle.std.proofs.lemmas.Bool.{eq-eqb, ne_eqb, cases_lt, cases_eq, cond-true, cond-false}
use Rattle.cells.specs.Cells.{Cell, at, on, walk, mean, level, Reduced, seek, placed, node, build, Grows, Made, Sides}
use Rattle.cells.proofs.Bit.{on_low, on_high}
use Rattle.cells.proofs.Mean.{mean_cell, level_cell, walk_above}
use Rattle.cells.proofs.Held.{found_or_none, seek_there, seek_none, placed_held, node_one, held}
use Rattle.cells.proofs.Grow.{grows_refl, grows_trans, grows_push, at_push, walk_kept, level_kept, push_reduced}

-- what `node` leaves: the set that has h where bit i is 1, and else l
pub Joined : (cs : List Cell) (x : Cell) → ℕ → Bool
Joined cs x k = cond (on x.0 k) (mean cs x.2 k) (mean cs x.1 k)

pub joined_low : (cs : List Cell) (x : Cell) (k : ℕ) → k < 2 ^ x.0 → Joined cs x k ≡ mean cs x.1 k
unfolding Joined
joined_low cs x k h = cond-false _ _ _ (on_low x.0 k h)

pub joined_high : (n : ℕ) (cs : List Cell) (x : Cell) (k : ℕ) → Reduced n cs → Sides n cs x → k < 2 ^ x.0
    → Joined cs x (2 ^ x.0 + k) ≡ mean cs x.2 k
unfolding Joined
joined_high n cs x k w s h =
    cond-true _ _ _ (on_high x.0 k h) ∙ walk_above n cs w x.2 x.2 x.0 k s.high s.high_level

one_side : (n : ℕ) (cs : List Cell) (x : Cell) → Reduced n cs → Sides n cs x → x.1 ≡ x.2 → Made n cs (suc x.0) (Joined cs x) (cs, x.1)
unfolding Joined
one_side n cs x w s e =
    record {
      reduced = w;
      grows = grows_refl cs;
      there = s.low;
      flat = omega (arith, s.low_level);
      means = λ k h.
          subst (λ (y : ℕ). mean cs x.1 k ≡ cond (on x.0 k) (mean cs y k) (mean cs x.1 k)) e (both (on x.0 k) (mean cs x.1 k));
    }
  where
    both : (b t : Bool) → t ≡ cond b t t
    both true t = refl
    both false t = refl

there_side : (n : ℕ) (cs : List Cell) (x : Cell) → Reduced n cs → Sides n cs x → (c : ℕ) → 2 ≤ c → c < length cs → at cs c ≡ x
    → Made n cs (suc x.0) (Joined cs x) (cs, c)
unfolding Joined
there_side n cs x w s c h hc e =
    record {
      reduced = w;
      grows = grows_refl cs;
      there = hc;
      flat = omega (arith, level_cell cs c h, ap (λ (y : Cell). y.0) e);
      means = λ k l. mean_cell n cs w c k h hc ∙ ap (λ (y : Cell). cond (on y.0 k) (mean cs y.2 k) (mean cs y.1 k)) e;
    }

new_side : (n : ℕ) (cs : List Cell) (x : Cell) → Reduced n cs → Sides n cs x → x.1 ≢ x.2 → ((c : ℕ) → c < length cs → at cs c ≢ x)
    → Made n cs (suc x.0) (Joined cs x) (cs ++ x ∷ [], length cs)
unfolding Joined
new_side n cs x w s ne fresh =
    let ds : List Cell = cs ++ x ∷ [] in
    let v : Reduced n ds = push_reduced n cs x w s ne fresh in
    let g : Grows cs ds = grows_push cs x in
    let len = length_push cs x in
    let two : 2 ≤ length cs = w.two in
    let e : at ds (length cs) ≡ x = at_push cs x in
    record {
      reduced = v;
      grows = g;
      there = omega arith;
      flat = omega (arith, level_cell ds (length cs) two, ap (λ (y : Cell). y.0) e);
      means = λ k l.
          mean_cell n ds v (length cs) k two (omega arith)
          ∙ ap (λ (y : Cell). cond (on y.0 k) (mean ds y.2 k) (mean ds y.1 k)) e
          ∙ ap₂ (λ (a b : Bool). cond (on x.0 k) a b)
          (walk_kept n cs ds w g x.2 x.2 k s.high) (walk_kept n cs ds w g x.1 x.1 k s.low);
    }

pub placed_none : (cs : List Cell) (x : Cell) → placed cs x None ≡ (cs ++ x ∷ [], length cs)
unfolding placed
placed_none cs x = refl

-- no cell that asks a switch is one of the two that ask none
pub not_end : (n : ℕ) (cs : List Cell) (x : Cell) → Reduced n cs → x.0 < n → (c : ℕ) → c < 2 → at cs c ≢ x
not_end n cs x w h zero l e = omega (arith, w.admitted, ap (λ (y : Cell). y.0) w.none, ap (λ (y : Cell). y.0) e)
not_end n cs x w h (suc zero) l e = omega (arith, w.admitted, ap (λ (y : Cell). y.0) w.all, ap (λ (y : Cell). y.0) e)
not_end n cs x w h (suc (suc c)) l e = omega arith

pub node_made : (n : ℕ) (cs : List Cell) (x : Cell) → Reduced n cs → Sides n cs x → Made n cs (suc x.0) (Joined cs x) (node cs x)
unfolding node
node_made n cs x w s =
    let P : List Cell × ℕ → Type 0 = Made n cs (suc x.0) (Joined cs x) in
    let o : Option ℕ = seek cs x (length cs) in
    ⊎_elim
    (λ (e : x.1 ≡ x.2). subst P (sym (cond-true _ _ _ (eq-eqb x.1 x.2 e))) (one_side n cs x w s e))
    (λ (ne : x.1 ≢ x.2).
    let f : cond (eqb x.1 x.2) (cs, x.1) (placed cs x o) ≡ placed cs x o = cond-false _ _ _ (ne_eqb x.1 x.2 ne) in
    subst P (sym f)
    (⊎_elim
    (λ (z : o ≡ None).
    subst P (sym (ap (placed cs x) z ∙ placed_none cs x))
    (new_side n cs x w s ne (seek_none cs x (length cs) z)))
    (λ (z : (m : ℕ) × (o ≡ Some m)).
    let m : ℕ = z.0 in
    let t = seek_there cs x (length cs) m z.1 in
    let two : 2 ≤ m =
    ⊎_elim (λ (l : m < 2). absurd (not_end n cs x w s.switch m l t.1)) (λ (l : 2 ≤ m). l) (cases_lt m 2) in
    subst P (sym (ap (placed cs x) z.1 ∙ placed_held cs x m)) (there_side n cs x w s m two t.0 t.1))
    (found_or_none o)))
    (cases_eq x.1 x.2)

build_zero : (n : ℕ) (cs : List Cell) → Reduced n cs → (b : Bool) → (f : ℕ → Bool) → f 0 ≡ b → Made n cs 0 f (cs, cond b 1 0)
unfolding walk level
build_zero n cs w true f e =
    record { reduced = w; grows = grows_refl cs; there = omega (arith, w.two); flat = omega arith; means = λ k h. sym e ∙ ap f (zero_of k h) }
  where
    zero_of : (k : ℕ) → k < 2 ^ 0 → 0 ≡ k
    zero_of k h = omega arith
build_zero n cs w false f e =
    record { reduced = w; grows = grows_refl cs; there = omega (arith, w.two); flat = omega arith; means = λ k h. sym e ∙ ap f (zero_of k h) }
  where
    zero_of : (k : ℕ) → k < 2 ^ 0 → 0 ≡ k
    zero_of k h = omega arith

-- the diagram that is built means the set, keeps the cells before it, and is reduced
pub build_made : (n : ℕ) (cs : List Cell) → Reduced n cs → (i : ℕ) (f : ℕ → Bool) → i ≤ n → Made n cs i f (build cs i f)
unfolding build
build_made n cs w zero f h = build_zero n cs w (f 0) f refl
build_made n cs w (suc i) f h =
    let p : List Cell × ℕ = build cs i f in
    let mp : Made n cs i f p = build_made n cs w i f (omega arith) in
    let q : List Cell × ℕ = build p.0 i (λ k. f (2 ^ i + k)) in
    let mq : Made n p.0 i (λ k. f (2 ^ i + k)) q = build_made n p.0 mp.reduced i (λ k. f (2 ^ i + k)) (omega arith) in
    let x : Cell = (i, p.1, q.1) in
    let low_level : level q.0 p.1 ≤ i = omega (arith, level_kept p.0 q.0 mq.grows p.1 mp.there, mp.flat) in
    let s : Sides n q.0 x =
    record { switch = omega arith; low = omega (arith, mq.grows.longer, mp.there); high = mq.there; low_level = low_level; high_level = mq.flat } in
    let mn : Made n q.0 (suc i) (Joined q.0 x) (node q.0 x) = node_made n q.0 x mq.reduced s in
    let e : 2 ^ suc i ≡ 2 ^ i * 2 = pow-suc 2 i in
    record {
      reduced = mn.reduced;
      grows = grows_trans cs p.0 _ mp.grows (grows_trans p.0 q.0 _ mq.grows mn.grows);
      there = mn.there;
      flat = mn.flat;
      means = λ k l. mn.means k l ∙
          ⊎_elim
          (λ (b : k < 2 ^ i).
          joined_low q.0 x k b ∙ walk_kept n p.0 q.0 mp.reduced mq.grows p.1 p.1 k mp.there ∙ mp.means k b)
          (λ (b : 2 ^ i ≤ k).
          let j : ℕ = k - 2 ^ i in
          let kj : 2 ^ i + j ≡ k = omega arith in
          let lj : j < 2 ^ i = omega arith in
          subst (λ (z : ℕ). Joined q.0 x z ≡ f z) kj
          (joined_high n q.0 x j mq.reduced s lj ∙ mq.means j lj))
          (cases_lt k (2 ^ i));
    }

-- only the configurations below 2 ^ i count
pub build_ext : (cs : List Cell) (i : ℕ) (f g : ℕ → Bool) → ((k : ℕ) → k < 2 ^ i → f k ≡ g k) → build cs i f ≡ build cs i g
unfolding build
build_ext cs zero f g e = ap (λ (b : Bool). (cs, cond b 1 0)) (e 0 (pow_pos 0))
build_ext cs (suc i) f g e =
    let s : 2 ^ suc i ≡ 2 ^ i * 2 = pow-suc 2 i in
    let l = build_ext cs i f g (λ k h. e k (omega arith)) in
    let h = build_ext (build cs i g).0 i (λ k. f (2 ^ i + k)) (λ k. g (2 ^ i + k)) (λ k h. e (2 ^ i + k) (omega arith)) in
    simp (l, h)

-- a switch that a set does not ask adds nothing
pub build_drop : (n : ℕ) (cs : List Cell) → Reduced n cs → (i : ℕ) (f : ℕ → Bool) → i < n → ((k : ℕ) → k < 2 ^ i → f (2 ^ i + k) ≡ f k)
    → build cs (suc i) f ≡ build cs i f
unfolding build
build_drop n cs w i f h e =
    let p : List Cell × ℕ = build cs i f in
    let mp : Made n cs i f p = build_made n cs w i f (omega arith) in
    let g : build p.0 i (λ k. f (2 ^ i + k)) ≡ (p.0, p.1) =
    held n p.0 mp.reduced i (λ k. f (2 ^ i + k)) p.1 mp.there mp.flat (λ k l. e k l ∙ sym (mp.means k l)) in
    simp g (node_one p.0 i p.1)

-- Every cell that is added is in the diagram of the answer, and there are fewer than 2^n.
use Rattle.std.proofs.Common.{◌≡◌, ℕ, zero, suc, ◌+◌, ◌*◌, ◌^◌, ◌<◌, ◌≤◌, Bool, cond, eqb, ◌≢◌, List, [], ◌∷◌, ◌++◌, length, Some, None, Option, sym, ap, ◌∙◌, subst, ⊎_elim, pow-suc, arith}
use Rattle.std.proofs.lemmas.List.{length_push}
use Rattle.std.proofs.lemmas.Bool.{eq-eqb, ne_eqb, cases_lt, cases_eq, cond-true, cond-false}
use Rattle.cells.specs.Cells.{Cell, at, Ordered, Reduced, seek, placed, node, build, Grows, Made, Sides, Reaches, Needed}
use Rattle.cells.specs.Cells.Reaches.{here, by_low, by_high}
use Rattle.cells.proofs.Held.{found_or_none, seek_there, placed_held}
use Rattle.cells.proofs.Grow.{grows_trans, at_push, level_kept}
use Rattle.cells.proofs.Build.{placed_none, not_end, node_made, build_made}

reach_trans : (cs : List Cell) {r d c : ℕ} → Reaches cs r d → Reaches cs d c → Reaches cs r c
reach_trans cs here y = y
reach_trans cs (by_low h x) y = by_low h (reach_trans cs x y)
reach_trans cs (by_high h x) y = by_high h (reach_trans cs x y)

reach_kept : (n : ℕ) (cs ds : List Cell) → Reduced n cs → Grows cs ds → {r c : ℕ} → r < length cs → Reaches cs r c → Reaches ds r c
reach_kept n cs ds w g hr here = here
reach_kept n cs ds w g hr (by_low {r = r} {c = c} h x) =
    let o : Ordered n cs r = w.ordered r h hr in
    by_low h (subst (λ (y : Cell). Reaches ds y.1 c) (sym (g.kept r hr)) (reach_kept n cs ds w g (omega (arith, o.low)) x))
reach_kept n cs ds w g hr (by_high {r = r} {c = c} h x) =
    let o : Ordered n cs r = w.ordered r h hr in
    by_high h (subst (λ (y : Cell). Reaches ds y.2 c) (sym (g.kept r hr)) (reach_kept n cs ds w g (omega (arith, o.high)) x))

-- `node` leads to both sides, and adds at most itself
pub record Over (cs : List Cell) (x : Cell) (p : List Cell × ℕ) : Type 0 where
  pub low : Reaches p.0 p.1 x.1
  pub high : Reaches p.0 p.1 x.2
  pub new : (c : ℕ) → length cs ≤ c → c < length p.0 → p.1 ≡ c
  pub few : length p.0 ≤ length cs + 1

over_cell : (cs ds : List Cell) (x : Cell) (c : ℕ) → 2 ≤ c → at ds c ≡ x → ((d : ℕ) → length cs ≤ d → d < length ds → c ≡ d) → length ds ≤ length cs + 1
    → Over cs x (ds, c)
over_cell cs ds x c two e new few =
    record {
      low = by_low two (subst (λ (y : Cell). Reaches ds y.1 x.1) (sym e) here);
      high = by_high two (subst (λ (y : Cell). Reaches ds y.2 x.2) (sym e) here);
      new = new;
      few = few;
    }

node_over : (n : ℕ) (cs : List Cell) (x : Cell) → Reduced n cs → x.0 < n → Over cs x (node cs x)
unfolding node
node_over n cs x w hs =
    let P : List Cell × ℕ → Type 0 = Over cs x in
    let o : Option ℕ = seek cs x (length cs) in
    ⊎_elim
    (λ (e : x.1 ≡ x.2). subst P (sym (cond-true _ _ _ (eq-eqb x.1 x.2 e)))
    (record { low = here; high = subst (λ (y : ℕ). Reaches cs x.1 y) e here; new = λ c h l. absurd (omega arith); few = omega arith }))
    (λ (ne : x.1 ≢ x.2).
    let f : cond (eqb x.1 x.2) (cs, x.1) (placed cs x o) ≡ placed cs x o = cond-false _ _ _ (ne_eqb x.1 x.2 ne) in
    subst P (sym f)
    (⊎_elim
    (λ (z : o ≡ None).
    let len = length_push cs x in
    subst P (sym (ap (placed cs x) z ∙ placed_none cs x))
    (over_cell cs (cs ++ x ∷ []) x (length cs) w.two (at_push cs x) (λ d h l. omega arith) (omega arith)))
    (λ (z : (m : ℕ) × (o ≡ Some m)).
    let m : ℕ = z.0 in
    let t = seek_there cs x (length cs) m z.1 in
    let two : 2 ≤ m =
    ⊎_elim (λ (l : m < 2). absurd (not_end n cs x w hs m l t.1)) (λ (l : 2 ≤ m). l) (cases_lt m 2) in
    subst P (sym (ap (placed cs x) z.1 ∙ placed_held cs x m)) (over_cell cs cs x m two t.1 (λ d h l. absurd (omega arith)) (omega arith)))
    (found_or_none o)))
    (cases_eq x.1 x.2)

pub build_needed : (n : ℕ) (cs : List Cell) → Reduced n cs → (i : ℕ) (f : ℕ → Bool) → i ≤ n
    → ((c : ℕ) → length cs ≤ c → c < length (build cs i f).0 → Reaches (build cs i f).0 (build cs i f).1 c)
    × (length (build cs i f).0 + 1 ≤ length cs + 2 ^ i)
unfolding build
build_needed n cs w zero f h = (λ c a b. absurd (omega arith), omega arith)
build_needed n cs w (suc i) f h =
    let g : ℕ → Bool = λ k. f (2 ^ i + k) in
    let p : List Cell × ℕ = build cs i f in
    let mp : Made n cs i f p = build_made n cs w i f (omega arith) in
    let q : List Cell × ℕ = build p.0 i g in
    let mq : Made n p.0 i g q = build_made n p.0 mp.reduced i g (omega arith) in
    let x : Cell = (i, p.1, q.1) in
    let low_there : p.1 < length q.0 = omega (arith, mq.grows.longer, mp.there) in
    let s : Sides n q.0 x =
    record {
      switch = omega arith;
      low = low_there;
      high = mq.there;
      low_level = omega (arith, level_kept p.0 q.0 mq.grows p.1 mp.there, mp.flat);
      high_level = mq.flat;
    } in
    let r : List Cell × ℕ = node q.0 x in
    let gn : Grows q.0 r.0 = (node_made n q.0 x mq.reduced s).grows in
    let o : Over q.0 x r = node_over n q.0 x mq.reduced (omega arith) in
    let ip = build_needed n cs w i f (omega arith) in
    let iq = build_needed n p.0 mp.reduced i g (omega arith) in
    let e : 2 ^ suc i ≡ 2 ^ i * 2 = pow-suc 2 i in (
      (λ c a b.
          ⊎_elim
          (λ (l : c < length p.0).
          reach_trans r.0 o.low
          (reach_kept n p.0 r.0 mp.reduced (grows_trans p.0 q.0 r.0 mq.grows gn) mp.there (ip.0 c a l)))
          (λ (l : length p.0 ≤ c).
          ⊎_elim
          (λ (k : c < length q.0).
          reach_trans r.0 o.high
          (reach_kept n q.0 r.0 mq.reduced gn mq.there (iq.0 c l k)))
          (λ (k : length q.0 ≤ c). subst (λ (y : ℕ). Reaches r.0 r.1 y) (o.new c k b) here)
          (cases_lt c (length q.0)))
          (cases_lt c (length p.0))),
      omega (arith, ip.1, iq.1, o.few),
    )

pub needed : Needed
needed n cs w f = build_needed n cs w n f (omega arith)

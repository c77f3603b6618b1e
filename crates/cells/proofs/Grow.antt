-- Cells keep their sets and levels as further cells are added.
use Rattle.std.proofs.Common.{◌≡◌, ℕ, zero, suc, ◌+◌, ◌<◌, ◌≤◌, Bool, cond, ◌≢◌, List, [], ◌∷◌, ◌++◌, length, sym, refl, ap, ◌∙◌, subst, ap₂, ⊎_elim, arith}
use Rattle.std.proofs.lemmas.List.{get_or_append_left, length_push, get_or_push}
use Rattle.std.proofs.lemmas.Bool.{cases_lt}
use Rattle.cells.specs.Cells.{Cell, at, on, walk, level, Ordered, Reduced, Grows, Sides}

pub grows_refl : (cs : List Cell) → Grows cs cs
grows_refl cs = record { longer = omega arith; kept = λ c h. refl }

pub grows_trans : (cs ds es : List Cell) → Grows cs ds → Grows ds es → Grows cs es
grows_trans cs ds es g h =
    record { longer = omega (arith, g.longer, h.longer); kept = λ c l. h.kept c (omega (arith, g.longer)) ∙ g.kept c l }

-- a set stays as cells are added
pub walk_kept : (n : ℕ) (cs ds : List Cell) → Reduced n cs → Grows cs ds → (f c k : ℕ) → c < length cs → walk ds f c k ≡ walk cs f c k
unfolding walk
walk_kept n cs ds w g zero c k hc = refl
walk_kept n cs ds w g (suc f) zero k hc = refl
walk_kept n cs ds w g (suc f) (suc zero) k hc = refl
walk_kept n cs ds w g (suc f) (suc (suc m)) k hc =
    let c : ℕ = suc (suc m) in
    let o : Ordered n cs c = w.ordered c (omega arith) hc in
    let e : at ds c ≡ at cs c = g.kept c hc in
    let h = walk_kept n cs ds w g f (at cs c).2 k (omega (arith, o.high)) in
    let l = walk_kept n cs ds w g f (at cs c).1 k (omega (arith, o.low)) in
    ap (λ (x : Cell). cond (on x.0 k) (walk ds f x.2 k) (walk ds f x.1 k)) e
    ∙ ap₂ (λ (x y : Bool). cond (on (at cs c).0 k) x y) h l

pub level_kept : (cs ds : List Cell) → Grows cs ds → (c : ℕ) → c < length cs → level ds c ≡ level cs c
unfolding level
level_kept cs ds g zero hc = refl
level_kept cs ds g (suc zero) hc = refl
level_kept cs ds g (suc (suc m)) hc = ap (λ (x : Cell). suc x.0) (g.kept (suc (suc m)) hc)

pub grows_push : (cs : List Cell) (x : Cell) → Grows cs (cs ++ x ∷ [])
grows_push cs x =
    record { longer = omega (arith, length_push cs x); kept = λ c h. get_or_append_left cs (x ∷ []) (0, 0, 0) c h }

pub at_push : (cs : List Cell) (x : Cell) → at (cs ++ x ∷ []) (length cs) ≡ x
at_push cs x = get_or_push cs x (0, 0, 0) (length cs) refl

-- a new cell keeps the diagram reduced
pub push_reduced : (n : ℕ) (cs : List Cell) (x : Cell) → Reduced n cs → Sides n cs x → x.1 ≢ x.2 → ((c : ℕ) → c < length cs → at cs c ≢ x)
    → Reduced n (cs ++ x ∷ [])
push_reduced n cs x w s ne fresh =
    let ds : List Cell = cs ++ x ∷ [] in
    let g : Grows cs ds = grows_push cs x in
    let len : length ds ≡ length cs + 1 = length_push cs x in
    let two : 2 ≤ length cs = w.two in
    record {
      admitted = w.admitted;
      two = omega arith;
      none = g.kept 0 (omega arith) ∙ w.none;
      all = g.kept 1 (omega arith) ∙ w.all;
      ordered = λ c h hc.
          ⊎_elim
          (λ (l : c < length cs). old ds g c h l)
          (λ (l : length cs ≤ c).
          let e : length cs ≡ c = omega arith in
          subst (Ordered n ds) e (new ds g))
          (cases_lt c (length cs));
      apart = λ c d hc hd e.
          ⊎_elim
          (λ (l : c < length cs).
          ⊎_elim
          (λ (m : d < length cs). w.apart c d l m (sym (g.kept c l) ∙ e ∙ g.kept d m))
          (λ (m : length cs ≤ d).
          let j : d ≡ length cs = omega arith in
          absurd (fresh c l (sym (g.kept c l) ∙ e ∙ ap (at ds) j ∙ at_push cs x)))
          (cases_lt d (length cs)))
          (λ (l : length cs ≤ c).
          let i : c ≡ length cs = omega arith in
          ⊎_elim
          (λ (m : d < length cs).
          absurd (fresh d m (sym (g.kept d m) ∙ sym e ∙ ap (at ds) i ∙ at_push cs x)))
          (λ (m : length cs ≤ d). omega arith)
          (cases_lt d (length cs)))
          (cases_lt c (length cs));
    }
  where
    old : (ds : List Cell) → Grows cs ds → (c : ℕ) → 2 ≤ c → c < length cs → Ordered n ds c
    old ds g c h l =
        let o : Ordered n cs c = w.ordered c h l in
        let e : at ds c ≡ at cs c = g.kept c l in
        let lo : level ds (at cs c).1 ≡ level cs (at cs c).1 = level_kept cs ds g (at cs c).1 (omega (arith, o.low)) in
        let hi : level ds (at cs c).2 ≡ level cs (at cs c).2 = level_kept cs ds g (at cs c).2 (omega (arith, o.high)) in
        let P : Cell → Type 0 = λ y.
        (y.0 < n) × (y.1 < c) × (y.2 < c) × (y.1 ≢ y.2) × (level ds y.1 ≤ y.0) × (level ds y.2 ≤ y.0) in
        let t : P (at ds c) = subst P (sym e)
        (o.switch, o.low, o.high, o.differ, omega (arith, o.low_level), omega (arith, o.high_level)) in
        record { switch = t.0; low = t.1; high = t.2; differ = t.3; low_level = t.4; high_level = t.5 }

    new : (ds : List Cell) → Grows cs ds → Ordered n (cs ++ x ∷ []) (length cs)
    new es g₀ =
        let ds : List Cell = cs ++ x ∷ [] in
        let g : Grows cs ds = grows_push cs x in
        let c : ℕ = length cs in
        let e : at ds c ≡ x = at_push cs x in
        let lo : level ds x.1 ≡ level cs x.1 = level_kept cs ds g x.1 s.low in
        let hi : level ds x.2 ≡ level cs x.2 = level_kept cs ds g x.2 s.high in
        let P : Cell → Type 0 = λ y.
        (y.0 < n) × (y.1 < c) × (y.2 < c) × (y.1 ≢ y.2) × (level ds y.1 ≤ y.0) × (level ds y.2 ≤ y.0) in
        let t : P (at ds c) = subst P (sym e)
        (s.switch, s.low, s.high, ne, omega (arith, s.low_level), omega (arith, s.high_level)) in
        record { switch = t.0; low = t.1; high = t.2; differ = t.3; low_level = t.4; high_level = t.5 }

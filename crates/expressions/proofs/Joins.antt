-- Parts joined by one token, for any reader of the parts.
--   Stuck c u n r      behind u the first of r is refused with n, whatever follows
--   Can D u z          behind u the tokens z can stand
--   Law                which number a refusal has, by what can stand there
--   Reads t D D⁺ stop  the reader t reads what D has, where what `stop` tells may follow; D⁺ has one level more
--   joined             the same of the reader of the parts joined
use Rattle.std.proofs.Common.{◌≡◌, ℕ, zero, suc, ◌≤◌, Bool, true, false, cond, ◌&&◌, List, [], ◌∷◌, ◌++◌, length, Ok, Err, sym, refl, ap, ◌∙◌, subst, ap₂, inl, inr, append_assoc, arith, length-append}
use mathlib.Core.Bool as bool
use Rattle.std.proofs.lemmas.Bool.{and_parts, not-true}
use Rattle.text.specs.Tokens.{Bytes, Tok, nought, name}
use Rattle.expressions.specs.Grammar.{Expr, Out, after, more, chain}
use Rattle.expressions.specs.Derived.{wrong_term, BehindDefined}

abbrev pub Stuck : (List Tok → Out) → List Tok → ℕ → List Tok → Type 0
Stuck c u n [] = Unit {0}
Stuck c u n (x ∷ r) = (v : List Tok) → c (u ++ x ∷ v) ≡ Err (n, x ∷ v)

abbrev pub Can : (List Tok → Expr → Type 0) → List Tok → List Tok → Type 0
Can D u z = (w : List Tok) × (e : Expr) × D (u ++ (z ++ w)) e

abbrev pub First : (List Tok → Type 0) → List Tok → Type 0
First G [] = ⊥
First G (x ∷ r) = G (x ∷ [])

pub data Law (G G⁺ : List Tok → Type 0) (S : ℕ → List Tok → Type 0) (u : List Tok) (n : ℕ) (r : List Tok) : Type 0 where
  name_is_due : n ≡ 13 → G (name (65 ∷ []) ∷ []) → BehindDefined u → S 13 (nought ∷ []) → Law G G⁺ S u n r
  term_due : n ≡ wrong_term r → G (nought ∷ []) → ((x : Bytes) → S 15 (name x ∷ [])) → (n ≡ 16 → First G⁺ r) → Law G G⁺ S u n r
  neither : n ≡ 14 → S 14 (nought ∷ []) → ((x : Bytes) → S 14 (name x ∷ [])) → Law G G⁺ S u n r

behind_cons : (x : Tok) (u : List Tok) → BehindDefined u → BehindDefined (x ∷ u)
behind_cons x u (w, inl e) = (x ∷ w, inl (ap (λ (z : List Tok). x ∷ z) e))
behind_cons x u (w, inr e) = (x ∷ w, inr (ap (λ (z : List Tok). x ∷ z) e))

pub behind_more : (p u : List Tok) → BehindDefined u → BehindDefined (p ++ u)
behind_more [] u b = b
behind_more (x ∷ p) u b = behind_cons x (p ++ u) (behind_more p u b)

-- the same law of another reader, of which what is known of this one holds too
module _ (G G⁺ H H⁺ : List Tok → Type 0) (S T : ℕ → List Tok → Type 0)
    (can : (z : List Tok) → G z → H z) (can⁺ : (z : List Tok) → G⁺ z → H⁺ z) (stuck : (n : ℕ) (s : List Tok) → S n s → T n s)
    (u v : List Tok) (behind : BehindDefined u → BehindDefined v) where
  first_by : (r : List Tok) → First G⁺ r → First H⁺ r
  first_by [] f = f
  first_by (x ∷ r) f = can⁺ (x ∷ []) f

  pub law_by : (n : ℕ) (r : List Tok) → Law G G⁺ S u n r → Law H H⁺ T v n r
  law_by n r (name_is_due e g b s) = name_is_due e (can (name (65 ∷ []) ∷ []) g) (behind b) (stuck 13 (nought ∷ []) s)
  law_by n r (term_due e g s f) = term_due e (can (nought ∷ []) g) (λ x. stuck 15 (name x ∷ []) (s x)) (λ q. first_by r (f q))
  law_by n r (neither e s t) = neither e (stuck 14 (nought ∷ []) s) (λ x. stuck 14 (name x ∷ []) (t x))

-- what was read, or where it stops
abbrev pub Got : (List Tok → Out) → (List Tok → Expr → Type 0) → (List Tok → Expr → Type 0) → (List Tok → Bool) → List Tok → Out → Type 0
Got c D D⁺ stop ts (Ok p) = (u : List Tok) × (ts ≡ u ++ p.1) × D u p.0 × (stop p.1 ≡ true)
Got c D D⁺ stop ts (Err f) =
    (u : List Tok) × (ts ≡ u ++ f.1) × Can D u [] × Stuck c u f.0 f.1 × Law (Can D u) (Can D⁺ u) (λ n s. Stuck c u n s) u f.0 f.1

pub record Reads (t : List Tok → Out) (D D⁺ : List Tok → Expr → Type 0) (stop : List Tok → Bool) : Type 0 where
  pub got : (ts : List Tok) → Got t D D⁺ stop ts (t ts)
  pub complete : (u : List Tok) (e : Expr) → D u e → (v : List Tok) → stop v ≡ true → t (u ++ v) ≡ Ok (e, v)
  pub raise : (u : List Tok) (e : Expr) → D u e → D⁺ u e

pub data Joined (D : List Tok → Expr → Type 0) (o : Tok) (join : Expr → Expr → Expr) : List Tok → Expr → Type 0 where
  one : {u : List Tok} {e : Expr} → D u e → Joined D o join u e
  next : (u v : List Tok) {e f : Expr} → Joined D o join u e → D v f → Joined D o join (u ++ o ∷ v) (join e f)

abbrev pub begins : (Tok → Bool) → List Tok → Bool
begins op [] = false
begins op (x ∷ r) = op x

module _ (op : Tok → Bool) (join : Expr → Expr → Expr) (t : List Tok → Out) where
  halts : (k : ℕ) (e : Expr) (v : List Tok) → begins op v ≡ false → more op join t k e v ≡ Ok (e, v)
  halts k e [] h = refl
  halts zero e (x ∷ r) h = refl
  halts (suc k) e (x ∷ r) h = ap (λ (b : Bool). cond b (after (t r) (λ f s. more op join t k (join e f) s)) (Ok (e, x ∷ r))) h

  module _ (o : Tok) (is-op : op o ≡ true) where
    step : (k : ℕ) (e : Expr) (r : List Tok) (z : Out) → t r ≡ z → more op join t (suc k) e (o ∷ r) ≡ after z (λ f s. more op join t k (join e f) s)
    step k e r z q =
        ap (λ (b : Bool). cond b (after (t r) (λ f s. more op join t k (join e f) s)) (Ok (e, o ∷ r))) is-op
        ∙ ap (λ (z : Out). after z (λ f s. more op join t k (join e f) s)) q

    fails : (k : ℕ) (e : Expr) (w : List Tok) (f : ℕ × List Tok) → suc (length w) ≤ k → t w ≡ Err f → more op join t k e (o ∷ w) ≡ Err f
    fails zero e w f h q = absurd (omega arith)
    fails (suc k) e w f h q = step k e w (Err f) q

    forth : (k : ℕ) (e f : Expr) (w v : List Tok) → suc (length w) ≤ k → length v ≤ length w → t w ≡ Ok (f, v)
        → (k' : ℕ) × (length v ≤ k') × (more op join t k e (o ∷ w) ≡ more op join t k' (join e f) v)
    forth zero e f w v h g q = absurd (omega arith)
    forth (suc k) e f w v h g q = (k, omega arith, step k e w (Ok (f, v)) q)

module _ (op : Tok → Bool) (o : Tok) (is-op : op o ≡ true) (only : (x : Tok) → op x ≡ true → x ≡ o) (join : Expr → Expr → Expr)
    (t : List Tok → Out) (D D⁺ : List Tok → Expr → Type 0) (stop : List Tok → Bool) (R : Reads t D D⁺ stop) (parts : (v : List Tok) → stop (o ∷ v) ≡ true) where
  abbrev J : List Tok → Expr → Type 0
  J = Joined D o join

  abbrev J⁺ : List Tok → Expr → Type 0
  J⁺ = Joined D⁺ o join

  abbrev c : List Tok → Out
  c = chain op join t

  abbrev stop' : List Tok → Bool
  stop' v = stop v && bool.not (begins op v)

  raised : (u : List Tok) (e : Expr) → Joined D o join u e → Joined D⁺ o join u e
  raised u e (one d) = one (R.raise u e d)
  raised u e (next v w {e = e₁} {f = f₁} j d) = next v w (raised v e₁ j) (R.raise w f₁ d)

  replay : {u : List Tok} {e : Expr} → Joined D o join u e → (v : List Tok) → stop v ≡ true → (k : ℕ) × (length v ≤ k) × (c (u ++ v) ≡ more op join t k e v)
  replay (one {u = u} {e = e} d) v h = (length v, omega arith, ap (λ (z : Out). after z (λ e r. more op join t (length r) e r)) (R.complete u e d v h))
  replay (next u w {e = e} {f = f} j d) v h =
      let i = replay j (o ∷ (w ++ v)) (parts (w ++ v)) in
      let g = forth op join t o is-op i.0 e f (w ++ v) v i.1 (omega (arith, length-append w v)) (R.complete w f d v h) in
      (g.0, g.1, ap c (append_assoc u (o ∷ w) v) ∙ i.2 ∙ g.2)

  stuck : (u w : List Tok) (e : Expr) → J u e → (n : ℕ) (s : List Tok) → Stuck t w n s → Stuck c (u ++ o ∷ w) n s
  stuck u w e j n [] h = tt
  stuck u w e j n (y ∷ s) h = λ v.
      let i = replay j (o ∷ (w ++ y ∷ v)) (parts (w ++ y ∷ v)) in
      ap c (append_assoc u (o ∷ w) (y ∷ v)) ∙ i.2 ∙ fails op join t o is-op i.0 e (w ++ y ∷ v) (n, y ∷ v) i.1 (h v)

  can : (B : List Tok → Expr → Type 0) (u w : List Tok) (e : Expr) → Joined B o join u e → (z : List Tok) → Can B w z → Can (Joined B o join) (u ++ o ∷ w) z
  can B u w e j z g = (
    g.0,
    join e g.1,
    subst (λ (x : List Tok). Joined B o join x (join e g.1)) (sym (append_assoc u (o ∷ w) (z ++ g.0))) (next u (w ++ (z ++ g.0)) j g.2),
  )

  module _ (k : ℕ) (rec : (u : List Tok) (e : Expr) (r : List Tok) → J u e → length r ≤ k → stop r ≡ true → Got c J J⁺ stop' (u ++ r) (more op join t k e r))
      (u : List Tok) (e : Expr) (r : List Tok) (j : J u e) (h : length r ≤ k) where
    item : (z : Out) → Got t D D⁺ stop r z → Got c J J⁺ stop' (u ++ o ∷ r) (after z (λ f s. more op join t k (join e f) s))
    item (Ok p) g =
        let w = g.0 in
        subst (λ (ts : List Tok). Got c J J⁺ stop' ts (more op join t k (join e p.0) p.1))
        (append_assoc u (o ∷ w) p.1 ∙ ap (λ (z : List Tok). u ++ o ∷ z) (sym g.1))
        (rec (u ++ o ∷ w) (join e p.0) p.1 (next u w j g.2) (omega (arith, ap length g.1, length-append w p.1)) g.3)
    item (Err f) g =
        let w = g.0 in (
          u ++ o ∷ w,
          sym (append_assoc u (o ∷ w) f.1 ∙ ap (λ (z : List Tok). u ++ o ∷ z) (sym g.1)),
          can D u w e j [] g.2,
          stuck u w e j f.0 f.1 g.3,
          law_by (Can D w) (Can D⁺ w) (Can J (u ++ o ∷ w)) (Can J⁺ (u ++ o ∷ w)) (λ n s. Stuck t w n s) (λ n s. Stuck c (u ++ o ∷ w) n s)
              (can D u w e j) (can D⁺ u w e (raised u e j)) (stuck u w e j) w (u ++ o ∷ w) (λ b. behind_more u (o ∷ w) (behind_more (o ∷ []) w b)) f.0 f.1 g.4,
        )

    turn : (x : Tok) → stop (x ∷ r) ≡ true → (b : Bool) → op x ≡ b
        → Got c J J⁺ stop' (u ++ x ∷ r) (cond b (after (t r) (λ f s. more op join t k (join e f) s)) (Ok (e, x ∷ r)))
    turn x s true q = subst (λ (x : Tok). Got c J J⁺ stop' (u ++ x ∷ r) (after (t r) (λ f s. more op join t k (join e f) s))) (sym (only x q)) (item (t r) (R.got r))
    turn x s false q = (u, refl, j, ap₂ (λ (a b : Bool). a && bool.not b) s q)

  loop : (k : ℕ) (u : List Tok) (e : Expr) (r : List Tok) → J u e → length r ≤ k → stop r ≡ true → Got c J J⁺ stop' (u ++ r) (more op join t k e r)
  loop k u e [] j h s = (u, refl, j, ap (λ (a : Bool). a && true) s)
  loop zero u e (x ∷ r) j h s = absurd (omega arith)
  loop (suc k) u e (x ∷ r) j h s = turn k (loop k) u e r j (omega arith) x s (op x) refl

  begun : (ts : List Tok) (z : Out) → Got t D D⁺ stop ts z → Got c J J⁺ stop' ts (after z (λ e r. more op join t (length r) e r))
  begun ts (Ok p) g =
      subst (λ (ts : List Tok). Got c J J⁺ stop' ts (more op join t (length p.1) p.0 p.1)) (sym g.1)
      (loop (length p.1) g.0 p.0 p.1 (one g.2) (omega arith) g.3)
  begun ts (Err f) g = (
    g.0,
    g.1,
    in_one D [] g.2,
    same f.0 f.1 g.3,
    law_by (Can D g.0) (Can D⁺ g.0) (Can J g.0) (Can J⁺ g.0) (λ n s. Stuck t g.0 n s) (λ n s. Stuck c g.0 n s)
        (in_one D) (in_one D⁺) same g.0 g.0 (λ b. b) f.0 f.1 g.4,
  )
    where
      same : (n : ℕ) (s : List Tok) → Stuck t g.0 n s → Stuck c g.0 n s
      same n [] h = tt
      same n (y ∷ s) h = λ v. ap (λ (z : Out). after z (λ e r. more op join t (length r) e r)) (h v)

      in_one : (B : List Tok → Expr → Type 0) (z : List Tok) → Can B g.0 z → Can (Joined B o join) g.0 z
      in_one B z i = (i.0, i.1, one i.2)

  pub joined : Reads c J J⁺ stop'
  joined = record {
    got = λ ts. begun ts (t ts) (R.got ts);
    complete = λ u e j v h.
        let p = and_parts (stop v) (bool.not (begins op v)) h in
        let i = replay j v p.0 in
        i.2 ∙ halts op join t i.0 e v (not-true (begins op v) p.1);
    raise = raised;
  }

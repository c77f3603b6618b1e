-- The readers of terms and expressions against the rules.
use Rattle.std.proofs.Common.{◌≡◌, ℕ, zero, suc, Bool, true, false, cond, ◌&&◌, List, [], ◌∷◌, ◌++◌, Ok, Err, sym, refl, ap, ◌∙◌, subst, inl, inr, append_assoc, arith}
use mathlib.Core.Bool as bool
use Rattle.text.specs.Tokens.{Bytes, Tok, nought, unit, defined, not, and, or, opened, closed, name, other}
use Rattle.expressions.specs.Grammar.{Expr, never, named, neg, conj, disj, is_and, is_or, is_close, Out, after, closing, inside, name_due, first, chain, expr_by, term, expr}
use Rattle.expressions.specs.Derived.{Part, a-term, ands, ors, Derives, zero_is, one_is, defined_is, wrapped_is, not_is, group_is, and_one, and_more, or_one, or_more, wrong_term}
use Rattle.expressions.proofs.Joins.{Stuck, Can, Law, name_is_due, term_due, neither, law_by, behind_more, Got, Reads, Joined, one, next, begins, joined}

only_and : (x : Tok) → is_and x ≡ true → x ≡ and
only_and nought e = cc
only_and unit e = cc
only_and defined e = cc
only_and not e = cc
only_and and e = refl
only_and or e = cc
only_and opened e = cc
only_and closed e = cc
only_and (name x) e = cc
only_and other e = cc

only_or : (x : Tok) → is_or x ≡ true → x ≡ or
only_or nought e = cc
only_or unit e = cc
only_or defined e = cc
only_or not e = cc
only_or and e = cc
only_or or e = refl
only_or opened e = cc
only_or closed e = cc
only_or (name x) e = cc
only_or other e = cc

only_close : (x : Tok) → is_close x ≡ true → x ≡ closed
only_close nought e = cc
only_close unit e = cc
only_close defined e = cc
only_close not e = cc
only_close and e = cc
only_close or e = cc
only_close opened e = cc
only_close closed e = refl
only_close (name x) e = cc
only_close other e = cc

abbrev any : List Tok → Bool
any v = true

abbrev no_and : List Tok → Bool
no_and v = any v && bool.not (begins is_and v)

abbrev pub no_more : List Tok → Bool
no_more v = no_and v && bool.not (begins is_or v)

-- the same reader, where the rules say the same
module _ (t : List Tok → Out) (D D⁺ E E⁺ : List Tok → Expr → Type 0) (stop : List Tok → Bool)
    (to : (u : List Tok) (e : Expr) → D u e → E u e) (from : (u : List Tok) (e : Expr) → E u e → D u e)
    (to⁺ : (u : List Tok) (e : Expr) → D⁺ u e → E⁺ u e) (R : Reads t D D⁺ stop) where
  as_can : (A B : List Tok → Expr → Type 0) → ((u : List Tok) (e : Expr) → A u e → B u e) → (u z : List Tok) → Can A u z → Can B u z
  as_can A B f u z g = (g.0, g.1, f (u ++ (z ++ g.0)) g.1 g.2)

  as_got : (ts : List Tok) (z : Out) → Got t D D⁺ stop ts z → Got t E E⁺ stop ts z
  as_got ts (Ok p) g = (g.0, g.1, to g.0 p.0 g.2, g.3)
  as_got ts (Err f) g = (
    g.0,
    g.1,
    as_can D E to g.0 [] g.2,
    g.3,
    law_by (Can D g.0) (Can D⁺ g.0) (Can E g.0) (Can E⁺ g.0) (λ n s. Stuck t g.0 n s) (λ n s. Stuck t g.0 n s)
        (as_can D E to g.0) (as_can D⁺ E⁺ to⁺ g.0) (λ n s h. h) g.0 g.0 (λ b. b) f.0 f.1 g.4,
  )

  as_rules : Reads t E E⁺ stop
  as_rules = record {
    got = λ ts. as_got ts (t ts) (R.got ts);
    complete = λ u e d v h. R.complete u e (from u e d) v h;
    raise = λ u e d. to⁺ u e (R.raise u e (from u e d));
  }

module _ (l : ℕ) where
  to_ands : (u : List Tok) (e : Expr) → Joined (Derives a-term l) and conj u e → Derives ands l u e
  to_ands u e (one d) = and_one d
  to_ands u e (next v w {e = e₁} {f = f₁} j d) = and_more v w (to_ands v e₁ j) d

  from_ands : (u : List Tok) (e : Expr) → Derives ands l u e → Joined (Derives a-term l) and conj u e
  from_ands u e (and_one d) = one d
  from_ands u e (and_more v w {e = e₁} {f = f₁} j d) = next v w (from_ands v e₁ j) d

  to_ors : (u : List Tok) (e : Expr) → Joined (Derives ands l) or disj u e → Derives ors l u e
  to_ors u e (one d) = or_one d
  to_ors u e (next v w {e = e₁} {f = f₁} j d) = or_more v w (to_ors v e₁ j) d

  from_ors : (u : List Tok) (e : Expr) → Derives ors l u e → Joined (Derives ands l) or disj u e
  from_ors u e (or_one d) = one d
  from_ors u e (or_more v w {e = e₁} {f = f₁} j d) = next v w (from_ors v e₁ j) d

exprs : (l : ℕ) (t : List Tok → Out) → Reads t (Derives a-term l) (Derives a-term (suc l)) any → Reads (expr_by t) (Derives ors l) (Derives ors (suc l)) no_more
exprs l t R =
    let A = as_rules (chain is_and conj t) (Joined (Derives a-term l) and conj) (Joined (Derives a-term (suc l)) and conj) (Derives ands l) (Derives ands (suc l)) no_and
    (to_ands l) (from_ands l) (to_ands (suc l))
    (joined is_and and refl only_and conj t (Derives a-term l) (Derives a-term (suc l)) any R (λ v. refl)) in
    as_rules (expr_by t) (Joined (Derives ands l) or disj) (Joined (Derives ands (suc l)) or disj) (Derives ors l) (Derives ors (suc l)) no_more
    (to_ors l) (from_ors l) (to_ors (suc l))
    (joined is_or or refl only_or disj (chain is_and conj t) (Derives ands l) (Derives ands (suc l)) no_and A (λ v. refl))

-- a name that can always stand
abbrev letter : Bytes
letter = 65 ∷ []

module _ (l : ℕ) (n o : List Tok → Out) where
  abbrev T : List Tok → Out
  T ts = first n o ts

  abbrev D : List Tok → Expr → Type 0
  D = Derives a-term l

  abbrev D⁺ : List Tok → Expr → Type 0
  D⁺ = Derives a-term (suc l)

  abbrev Refused : List Tok → ℕ → List Tok → Type 0
  Refused u m r = Law (Can D u) (Can D⁺ u) (λ n s. Stuck T u n s) u m r

  -- behind a name in parentheses
  abbrev wrapped : Bytes → List Tok
  wrapped x = defined ∷ opened ∷ name x ∷ []

  after_name : (x : Bytes) (r : List Tok) → Got T D D⁺ any (defined ∷ opened ∷ name x ∷ r) (closing (named x) r)
  after_name x [] = (wrapped x, refl, (closed ∷ [], named x, wrapped_is x), tt, neither refl (λ v. refl) (λ y v. refl))
  after_name x (y ∷ r) = go (is_close y) refl
    where
      go : (b : Bool) → is_close y ≡ b → Got T D D⁺ any (defined ∷ opened ∷ name x ∷ y ∷ r) (cond b (Ok (named x, r)) (Err (14, y ∷ r)))
      go true q = (defined ∷ opened ∷ name x ∷ closed ∷ [], ap (λ (y : Tok). defined ∷ opened ∷ name x ∷ y ∷ r) (only_close y q), wrapped_is x, refl)
      go false q = (
        wrapped x,
        refl,
        (closed ∷ [], named x, wrapped_is x),
        (λ v. ap (λ (b : Bool). cond b (Ok (named x, v)) (Err (14, y ∷ v))) q),
        neither refl (λ v. refl) (λ y v. refl),
      )

  open_law : (r : List Tok) → Refused (defined ∷ opened ∷ []) 13 r
  open_law r = name_is_due refl (closed ∷ [], named letter, wrapped_is letter) ([], inr refl) (λ v. refl)

  after_open : (r : List Tok) → Got T D D⁺ any (defined ∷ opened ∷ r) (inside r)
  after_open [] = (defined ∷ opened ∷ [], refl, (name letter ∷ closed ∷ [], named letter, wrapped_is letter), tt, open_law [])
  after_open (nought ∷ r) = (defined ∷ opened ∷ [], refl, (name letter ∷ closed ∷ [], named letter, wrapped_is letter), (λ v. refl), open_law (nought ∷ r))
  after_open (unit ∷ r) = (defined ∷ opened ∷ [], refl, (name letter ∷ closed ∷ [], named letter, wrapped_is letter), (λ v. refl), open_law (unit ∷ r))
  after_open (defined ∷ r) = (defined ∷ opened ∷ [], refl, (name letter ∷ closed ∷ [], named letter, wrapped_is letter), (λ v. refl), open_law (defined ∷ r))
  after_open (not ∷ r) = (defined ∷ opened ∷ [], refl, (name letter ∷ closed ∷ [], named letter, wrapped_is letter), (λ v. refl), open_law (not ∷ r))
  after_open (and ∷ r) = (defined ∷ opened ∷ [], refl, (name letter ∷ closed ∷ [], named letter, wrapped_is letter), (λ v. refl), open_law (and ∷ r))
  after_open (or ∷ r) = (defined ∷ opened ∷ [], refl, (name letter ∷ closed ∷ [], named letter, wrapped_is letter), (λ v. refl), open_law (or ∷ r))
  after_open (opened ∷ r) = (defined ∷ opened ∷ [], refl, (name letter ∷ closed ∷ [], named letter, wrapped_is letter), (λ v. refl), open_law (opened ∷ r))
  after_open (closed ∷ r) = (defined ∷ opened ∷ [], refl, (name letter ∷ closed ∷ [], named letter, wrapped_is letter), (λ v. refl), open_law (closed ∷ r))
  after_open (name x ∷ r) = after_name x r
  after_open (other ∷ r) = (defined ∷ opened ∷ [], refl, (name letter ∷ closed ∷ [], named letter, wrapped_is letter), (λ v. refl), open_law (other ∷ r))

  defined_law : (r : List Tok) → Refused (defined ∷ []) 13 r
  defined_law r = name_is_due refl ([], named letter, defined_is letter) ([], inl refl) (λ v. refl)

  after_defined : (r : List Tok) → Got T D D⁺ any (defined ∷ r) (name_due r)
  after_defined [] = (defined ∷ [], refl, (name letter ∷ [], named letter, defined_is letter), tt, defined_law [])
  after_defined (nought ∷ r) = (defined ∷ [], refl, (name letter ∷ [], named letter, defined_is letter), (λ v. refl), defined_law (nought ∷ r))
  after_defined (unit ∷ r) = (defined ∷ [], refl, (name letter ∷ [], named letter, defined_is letter), (λ v. refl), defined_law (unit ∷ r))
  after_defined (defined ∷ r) = (defined ∷ [], refl, (name letter ∷ [], named letter, defined_is letter), (λ v. refl), defined_law (defined ∷ r))
  after_defined (not ∷ r) = (defined ∷ [], refl, (name letter ∷ [], named letter, defined_is letter), (λ v. refl), defined_law (not ∷ r))
  after_defined (and ∷ r) = (defined ∷ [], refl, (name letter ∷ [], named letter, defined_is letter), (λ v. refl), defined_law (and ∷ r))
  after_defined (or ∷ r) = (defined ∷ [], refl, (name letter ∷ [], named letter, defined_is letter), (λ v. refl), defined_law (or ∷ r))
  after_defined (opened ∷ r) = after_open r
  after_defined (closed ∷ r) = (defined ∷ [], refl, (name letter ∷ [], named letter, defined_is letter), (λ v. refl), defined_law (closed ∷ r))
  after_defined (name x ∷ r) = (defined ∷ name x ∷ [], refl, defined_is x, refl)
  after_defined (other ∷ r) = (defined ∷ [], refl, (name letter ∷ [], named letter, defined_is letter), (λ v. refl), defined_law (other ∷ r))

  term_law : (m : ℕ) (r : List Tok) → m ≡ wrong_term r → (m ≡ 16 → ⊥) → Refused [] m r
  term_law m r e h = term_due e ([], never, zero_is) (λ x v. refl) (λ q. absurd (h q))

  first_got : ((r : List Tok) → Got T D D⁺ any (not ∷ r) (n r)) → ((r : List Tok) → Got T D D⁺ any (opened ∷ r) (o r)) → (ts : List Tok) → Got T D D⁺ any ts (first n o ts)
  first_got hn ho [] = ([], refl, (nought ∷ [], never, zero_is), tt, term_law 14 [] refl (λ q. omega arith))
  first_got hn ho (nought ∷ r) = (nought ∷ [], refl, zero_is, refl)
  first_got hn ho (unit ∷ r) = (unit ∷ [], refl, one_is, refl)
  first_got hn ho (defined ∷ r) = after_defined r
  first_got hn ho (not ∷ r) = hn r
  first_got hn ho (opened ∷ r) = ho r
  first_got hn ho (and ∷ r) = ([], refl, (nought ∷ [], never, zero_is), (λ v. refl), term_law 14 (and ∷ r) refl (λ q. omega arith))
  first_got hn ho (or ∷ r) = ([], refl, (nought ∷ [], never, zero_is), (λ v. refl), term_law 14 (or ∷ r) refl (λ q. omega arith))
  first_got hn ho (closed ∷ r) = ([], refl, (nought ∷ [], never, zero_is), (λ v. refl), term_law 14 (closed ∷ r) refl (λ q. omega arith))
  first_got hn ho (name x ∷ r) = ([], refl, (nought ∷ [], never, zero_is), (λ v. refl), term_law 15 (name x ∷ r) refl (λ q. omega arith))
  first_got hn ho (other ∷ r) = ([], refl, (nought ∷ [], never, zero_is), (λ v. refl), term_law 14 (other ∷ r) refl (λ q. omega arith))

raise : {p : Part} {l : ℕ} {u : List Tok} {e : Expr} → Derives p l u e → Derives p (suc l) u e
raise zero_is = zero_is
raise one_is = one_is
raise (defined_is x) = defined_is x
raise (wrapped_is x) = wrapped_is x
raise (not_is d) = not_is (raise d)
raise (group_is u d) = group_is u (raise d)
raise (and_one d) = and_one (raise d)
raise (and_more u v d g) = and_more u v (raise d) (raise g)
raise (or_one d) = or_one (raise d)
raise (or_more u v d g) = or_more u v (raise d) (raise g)

flat_complete : (u : List Tok) (e : Expr) → Derives a-term 0 u e → (v : List Tok) → any v ≡ true → term 0 (u ++ v) ≡ Ok (e, v)
flat_complete u e zero_is v h = refl
flat_complete u e one_is v h = refl
flat_complete u e (defined_is x) v h = refl
flat_complete u e (wrapped_is x) v h = refl

-- where no level is left
flat : Reads (λ ts. term 0 ts) (Derives a-term 0) (Derives a-term 1) any
flat = record {
  got = λ ts. first_got 0 (λ r. Err (16, not ∷ r)) (λ r. Err (16, opened ∷ r))
      (λ r. ([], refl, (nought ∷ [], never, zero_is), (λ v. refl), term_due refl ([], never, zero_is) (λ x v. refl) (λ q. (nought ∷ [], neg never, not_is zero_is))))
      (λ r. (
        [],
        refl,
        (nought ∷ [], never, zero_is),
        (λ v. refl),
        term_due refl ([], never, zero_is) (λ x v. refl) (λ q. (nought ∷ closed ∷ [], never, group_is (nought ∷ []) (or_one (and_one zero_is)))),
      )) ts;
  complete = flat_complete;
  raise = λ u e d. raise d;
}

module _ (l : ℕ) (R : Reads (λ ts. term l ts) (Derives a-term l) (Derives a-term (suc l)) any) where
  abbrev E : Reads (expr_by (λ ts. term l ts)) (Derives ors l) (Derives ors (suc l)) no_more
  E = exprs l (λ ts. term l ts) R

  abbrev U : List Tok → Out
  U ts = term (suc l) ts

  abbrev A : ℕ → List Tok → Expr → Type 0
  A m = Derives a-term m

  not_can : (m : ℕ) (u z : List Tok) → Can (Derives a-term m) u z → Can (Derives a-term (suc m)) (not ∷ u) z
  not_can m u z g = (g.0, neg g.1, not_is g.2)

  not_stuck : (u : List Tok) (n : ℕ) (s : List Tok) → Stuck (λ ts. term l ts) u n s → Stuck U (not ∷ u) n s
  not_stuck u n [] h = tt
  not_stuck u n (y ∷ s) h = λ v. ap (λ (z : Out). after z (λ e s. Ok (neg e, s))) (h v)

  neg_got : (r : List Tok) (z : Out) → Got (λ ts. term l ts) (A l) (A (suc l)) any r z → Got U (A (suc l)) (A (suc (suc l))) any (not ∷ r) (after z (λ e s. Ok (neg e, s)))
  neg_got r (Ok p) g = (not ∷ g.0, ap (λ (z : List Tok). not ∷ z) g.1, not_is g.2, refl)
  neg_got r (Err f) g = (
    not ∷ g.0,
    ap (λ (z : List Tok). not ∷ z) g.1,
    not_can l g.0 [] g.2,
    not_stuck g.0 f.0 f.1 g.3,
    law_by (Can (A l) g.0) (Can (A (suc l)) g.0) (Can (A (suc l)) (not ∷ g.0)) (Can (A (suc (suc l))) (not ∷ g.0))
        (λ n s. Stuck (λ ts. term l ts) g.0 n s) (λ n s. Stuck U (not ∷ g.0) n s)
        (not_can l g.0) (not_can (suc l) g.0) (not_stuck g.0) g.0 (not ∷ g.0) (behind_more (not ∷ []) g.0) f.0 f.1 g.4,
  )

  -- behind an expression in parentheses only `)` can stand
  unclosed : (u : List Tok) (e : Expr) → Derives ors l u e → (y : Tok) (v : List Tok) → no_more (y ∷ v) ≡ true → is_close y ≡ false → U (opened ∷ (u ++ y ∷ v)) ≡ Err (14, y ∷ v)
  unclosed u e d y v h q = ap (λ (z : Out). after z closing) (E.complete u e d (y ∷ v) h) ∙ ap (λ (b : Bool). cond b (Ok (e, v)) (Err (14, y ∷ v))) q

  close_law : (u : List Tok) (e : Expr) (r : List Tok) → Derives ors l u e
      → Law (Can (A (suc l)) (opened ∷ u)) (Can (A (suc (suc l))) (opened ∷ u)) (λ n s. Stuck U (opened ∷ u) n s) (opened ∷ u) 14 r
  close_law u e r d = neither refl (λ v. unclosed u e d nought v refl refl) (λ x v. unclosed u e d (name x) v refl refl)

  close_got : (u : List Tok) (e : Expr) (s : List Tok) → Derives ors l u e → no_more s ≡ true → Got U (A (suc l)) (A (suc (suc l))) any (opened ∷ (u ++ s)) (closing e s)
  close_got u e [] d h = (opened ∷ u, refl, (closed ∷ [], e, group_is u d), tt, close_law u e [] d)
  close_got u e (y ∷ s) d h = go (is_close y) refl
    where
      go : (b : Bool) → is_close y ≡ b → Got U (A (suc l)) (A (suc (suc l))) any (opened ∷ (u ++ y ∷ s)) (cond b (Ok (e, s)) (Err (14, y ∷ s)))
      go true q = (
        opened ∷ (u ++ closed ∷ []),
        ap (λ (y : Tok). opened ∷ (u ++ y ∷ s)) (only_close y q) ∙ ap (λ (z : List Tok). opened ∷ z) (sym (append_assoc u (closed ∷ []) s)),
        group_is u d,
        refl,
      )
      go false q = (opened ∷ u, refl, (closed ∷ [], e, group_is u d), (λ v. unclosed u e d y v h q), close_law u e (y ∷ s) d)

  open_can : (m : ℕ) (u z : List Tok) → Can (Derives ors m) u z → Can (Derives a-term (suc m)) (opened ∷ u) z
  open_can m u z g = (
    g.0 ++ closed ∷ [],
    g.1,
    subst (λ (x : List Tok). Derives a-term (suc m) (opened ∷ x) g.1)
        (append_assoc u (z ++ g.0) (closed ∷ []) ∙ ap (λ (x : List Tok). u ++ x) (append_assoc z g.0 (closed ∷ [])))
        (group_is (u ++ (z ++ g.0)) g.2),
  )

  open_stuck : (u : List Tok) (n : ℕ) (s : List Tok) → Stuck (expr_by (λ ts. term l ts)) u n s → Stuck U (opened ∷ u) n s
  open_stuck u n [] h = tt
  open_stuck u n (y ∷ s) h = λ v. ap (λ (z : Out). after z closing) (h v)

  group_got : (r : List Tok) (z : Out) → Got (expr_by (λ ts. term l ts)) (Derives ors l) (Derives ors (suc l)) no_more r z
      → Got U (A (suc l)) (A (suc (suc l))) any (opened ∷ r) (after z closing)
  group_got r (Ok p) g =
      subst (λ (r : List Tok). Got U (A (suc l)) (A (suc (suc l))) any (opened ∷ r) (closing p.0 p.1)) (sym g.1) (close_got g.0 p.0 p.1 g.2 g.3)
  group_got r (Err f) g = (
    opened ∷ g.0,
    ap (λ (z : List Tok). opened ∷ z) g.1,
    open_can l g.0 [] g.2,
    open_stuck g.0 f.0 f.1 g.3,
    law_by (Can (Derives ors l) g.0) (Can (Derives ors (suc l)) g.0) (Can (A (suc l)) (opened ∷ g.0)) (Can (A (suc (suc l))) (opened ∷ g.0))
        (λ n s. Stuck (expr_by (λ ts. term l ts)) g.0 n s) (λ n s. Stuck U (opened ∷ g.0) n s)
        (open_can l g.0) (open_can (suc l) g.0) (open_stuck g.0) g.0 (opened ∷ g.0) (behind_more (opened ∷ []) g.0) f.0 f.1 g.4,
  )

  deep_complete : (u : List Tok) (e : Expr) → Derives a-term (suc l) u e → (v : List Tok) → any v ≡ true → term (suc l) (u ++ v) ≡ Ok (e, v)
  deep_complete u e zero_is v h = refl
  deep_complete u e one_is v h = refl
  deep_complete u e (defined_is x) v h = refl
  deep_complete u e (wrapped_is x) v h = refl
  deep_complete u e (not_is {u = w} {e = f} d) v h = ap (λ (z : Out). after z (λ e s. Ok (neg e, s))) (R.complete w f d v refl)
  deep_complete u e (group_is w d) v h =
      ap (λ (z : List Tok). after (expr_by (λ ts. term l ts) z) closing) (append_assoc w (closed ∷ []) v)
      ∙ ap (λ (z : Out). after z closing) (E.complete w e d (closed ∷ v) refl)

  deep : Reads (λ ts. term (suc l) ts) (Derives a-term (suc l)) (Derives a-term (suc (suc l))) any
  deep = record {
    got = λ ts. first_got (suc l) (λ r. after (term l r) (λ e s. Ok (neg e, s))) (λ r. after (expr_by (λ s. term l s) r) closing)
        (λ r. neg_got r (term l r) (R.got r)) (λ r. group_got r (expr_by (λ s. term l s) r) (E.got r)) ts;
    complete = deep_complete;
    raise = λ u e d. raise d;
  }

terms : (l : ℕ) → Reads (λ ts. term l ts) (Derives a-term l) (Derives a-term (suc l)) any
terms zero = flat
terms (suc l) = deep l (terms l)

pub expressions : (l : ℕ) → Reads (λ ts. expr l ts) (Derives ors l) (Derives ors (suc l)) no_more
expressions l = exprs l (λ ts. term l ts) (terms l)

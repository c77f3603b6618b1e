-- The questions about a line, and the rules by which it is written. Assumes nothing.
--   hash_yes         what a pattern in front tells of `#`
--   hash_first, lone_hash, last_is    each test decides what its rule says
--   last_found, is_last    the last byte outside blanks is the first that is found from the end on
--   lookup_listed, listed_lookup    the table has one directive for each name, and only for its names
--   written_found, found_written    a line that is written as a directive has it, and a line with a directive is written as it
--   Finds, finds     what `find` promises of its answer
--   past_length, rest_within    what stands behind the name is no longer than what begins with it, and than the line
--   found_by, found_none    the answer where `#` stands first, and where it does not
--   hash_some, alone_of    the tests, by what stands behind `#`
use Rattle.std.proofs.Common.{reverse, not, ◌≡◌, ℕ, ◌-◌, ◌≤◌, Bool, true, false, cond, eqb, ◌⊎◌, List, [], ◌∷◌, ◌++◌, length, get_or, drop, is_some, Some, None, Decides, Option, sym, refl, ap, ◌∙◌, subst, ap₂, inl, inr, arith, length-append, Bor, MatchOption}
use mathlib.Core.List.Memᴰ
use mathlib.Core.List.{Memᴰ}
use Rattle.std.specs.Str.{bytes_eq}
use Rattle.std.specs.List.{find}
use Rattle.std.specs.Option.{unwrap_or, option_map, option_eq}
use Rattle.std.proofs.lemmas.List.{append_assoc, drop_at, take_rest, reverse-append, reverse-reverse}
use Rattle.std.proofs.lemmas.Bool.{false≢true, eqb-true, eq-eqb, ne_eqb, and_parts, and_left}
use Rattle.std.proofs.lemmas.Slice.Eq.{bytes_eq-Decides}
use Rattle.text.specs.Reading.{Run}
use Rattle.directives.specs.declared.Directive.{Directive}
use Rattle.directives.specs.declared.Found.{Found}
use Rattle.directives.specs.Gaps.{Bytes, blank, between, skip, front, Blanks, Skipped, behind, swallowed, Fronted}
use Rattle.directives.specs.Directives.{run, past, table, lookup, rest, nil, hash, alone, named, directive_of, placed, found_in, final}
use Rattle.directives.specs.Written.{Listed, Written, written, HashFirst, LoneHash, AllBlank, no_byte, one_more, LastIs}
use Rattle.directives.proofs.Skips.{tail, solid_skip, blanks_skip, skipped_is, skipped, fronted_is, fronted}
use Rattle.directives.proofs.Runs.{run_past, past_stops, run_run, run_is, past_is, run_solid}

-- `#` in front
pub hash_yes : (s : Bytes) → 1 ≤ length s → get_or s 0 0 ≡ 35 → s ≡ 35 ∷ tail 1 s
hash_yes [] h e = absurd (omega arith)
hash_yes (x ∷ s) h e = λ i. e i ∷ sym (take_rest (x ∷ s) 1) i

hash_is : (s : Bytes) → hash s ≡ true → s ≡ 35 ∷ rest s
hash_is [] e = absurd (false≢true e)
hash_is (x ∷ s) e = ap (λ (z : ℕ). z ∷ s) (eqb-true x 35 e)

nil_is : (s : Bytes) → nil s ≡ true → s ≡ []
nil_is [] e = refl
nil_is (x ∷ s) e = absurd (false≢true e)

pub hash_first : (c : Bool) (l : Bytes) → Decides (hash (front c l)) (HashFirst c l)
hash_first c l = (
  λ e. (rest (front c l), subst (λ (s : Bytes). Fronted c l s) (hash_is (front c l) e) (fronted c l)),
  λ h. ap hash (fronted_is h.1),
)

pub lone_hash : (c : Bool) (l : Bytes) → Decides (alone (front c l)) (LoneHash c l)
lone_hash c l = (yes_so, λ h. ap alone (fronted_is h.1) ∙ ap nil (skipped_is h.2))
  where
    yes_so : alone (front c l) ≡ true → LoneHash c l
    yes_so e =
        let s = front c l in
        let p = and_parts (hash s) (nil (skip between (rest s))) e in (
          rest s,
          subst (λ (s : Bytes). Fronted c l s) (hash_is s p.0) (fronted c l),
          subst (λ (r : Bytes). Skipped (rest s) r) (nil_is (skip between (rest s)) p.1) (skipped (rest s)),
        )

-- the last byte outside blanks
final_blanks : {s : Bytes} → AllBlank s → (z : ℕ) → final z s ≡ z
final_blanks no_byte z = refl
final_blanks (one_more {x} {s} e a) z = ap (λ (b : Bool). final (cond b z x) s) e ∙ final_blanks a z

final_in : (u v : Bytes) (z : ℕ) → AllBlank v → final z (u ++ 92 ∷ v) ≡ 92
final_in [] v z a = final_blanks a 92
final_in (x ∷ u) v z a = final_in u v (cond (blank x) z x) a

final_parts : (l : Bytes) (z b : ℕ) → final z l ≡ b → LastIs b l ⊎ (AllBlank l × (z ≡ b))
final_parts [] z b e = inr (no_byte, e)
final_parts (x ∷ l) z b e = go (blank x) refl (final_parts l (cond (blank x) z x) b e)
  where
    go : (t : Bool) → blank x ≡ t → LastIs b l ⊎ (AllBlank l × (cond t z x ≡ b)) → LastIs b (x ∷ l) ⊎ (AllBlank (x ∷ l) × (z ≡ b))
    go t h (inl p) = inl (x ∷ p.0, p.1, ap (λ (s : Bytes). x ∷ s) p.2, p.3)
    go true h (inr p) = inr (one_more h p.0, p.1)
    go false h (inr p) = inl ([], l, ap (λ (y : ℕ). y ∷ l) p.1, p.0)

pub last_is : (l : Bytes) → Decides (eqb (final 0 l) 92) (LastIs 92 l)
last_is l = (
  λ e. go (final_parts l 0 92 (eqb-true (final 0 l) 92 e)),
  λ h. eq-eqb (final 0 l) 92 (ap (final 0) h.2 ∙ final_in h.0 h.1 0 h.3),
)
  where
    go : LastIs 92 l ⊎ (AllBlank l × ◌≡◌ {A = ℕ} 0 92) → LastIs 92 l
    go (inl h) = h
    go (inr h) = absurd (omega (arith, h.1))

final_more : (p : Bytes) (x z : ℕ) → final z (p ++ x ∷ []) ≡ cond (blank x) (final z p) x
final_more [] x z = refl
final_more (y ∷ p) x z = final_more p x (cond (blank y) z y)

-- looked for from the end on
abbrev pub solid_byte : ℕ → Bool
solid_byte b = not (blank b)

final_found : (r : Bytes) → final 0 (reverse r) ≡ unwrap_or (find solid_byte r) 0
final_found [] = refl
final_found (x ∷ r) = ap (final 0) (reverse-append (x ∷ []) r) ∙ final_more (reverse r) x 0 ∙ go (blank x) (final_found r)
  where
    go : (b : Bool) → final 0 (reverse r) ≡ unwrap_or (find solid_byte r) 0 → cond b (final 0 (reverse r)) x ≡ unwrap_or (cond (not b) (Some x) (find solid_byte r)) 0
    go true e = e
    go false e = refl

pub last_found : (l : Bytes) → final 0 l ≡ unwrap_or (find solid_byte (reverse l)) 0
last_found l = ap (final 0) (sym (reverse-reverse l)) ∙ final_found (reverse l)

pub is_last : (l : Bytes) (o : Option (Bor ℕ)) (r : Bor ℕ) → r.now ≡ 92 → option_map (λ x. x.now) o ≡ find solid_byte (reverse l)
    → option_eq (λ x y. eqb x.now y.now) o (Some r) ≡ eqb (final 0 l) 92
is_last l (Some b) r n e = ap (eqb b.now) n ∙ ap (λ (k : ℕ). eqb k 92) (sym (last_found l ∙ ap (λ (o : Option ℕ). unwrap_or o 0) (sym e)))
is_last l None r n e = ap (λ (k : ℕ). eqb k 92) (sym (last_found l ∙ ap (λ (o : Option ℕ). unwrap_or o 0) (sym e)))

-- The table.
pub lookup_listed : (t : List (Bytes × Directive)) (n : Bytes) (d : Directive) → lookup t n ≡ Some d → Memᴰ (n, d) t
lookup_listed [] n d e = let z : ◌≡◌ {A = ℕ} 0 1 = cc in absurd (omega arith)
lookup_listed (p ∷ t) n d e = go (bytes_eq n p.0) refl e (lookup_listed t n d)
  where
    go : (b : Bool) → bytes_eq n p.0 ≡ b → cond b (Some p.1) (lookup t n) ≡ Some d → (lookup t n ≡ Some d → Memᴰ (n, d) t) → Memᴰ (n, d) (p ∷ t)
    go true h e k = let q : p.1 ≡ d = cc in Memᴰ.head (λ i. ((bytes_eq-Decides n p.0).0 h i, sym q i))
    go false h e k = Memᴰ.tail (k e)

abbrev Every : List (Bytes × Directive) → (Bytes × Directive → Type 0) → Type 0
Every [] P = Unit {0}
Every (p ∷ t) P = P p × Every t P

member : (t : List (Bytes × Directive)) (P : Bytes × Directive → Type 0) → Every t P → {q : Bytes × Directive} → Memᴰ q t → P q
member [] P e h = absurd (Memᴰ.not-nil h)
member (p ∷ t) P e (Memᴰ.head h) = subst P (sym h) e.0
member (p ∷ t) P e (Memᴰ.tail h) = member t P e.1 h

-- each name of the table is found there
each_found : Every table (λ (p : Bytes × Directive). lookup table p.0 ≡ Some p.1)
each_found = (refl, (refl, (refl, (refl, (refl, (refl, (refl, (refl, (refl, (refl, tt))))))))))

listed_lookup : {n : Bytes} {d : Directive} → Listed n d → lookup table n ≡ Some d
listed_lookup {n} {d} m = member table (λ (p : Bytes × Directive). lookup table p.0 ≡ Some p.1) each_found {q = (n, d)} m

-- From the rule to the directive found.
hash_skip : (g t : Bytes) → Blanks g → skip between (g ++ 35 ∷ t) ≡ 35 ∷ t
hash_skip g t k = blanks_skip k (35 ∷ t) ∙ solid_skip (35 ∷ t) refl

named_is : (g h n r : Bytes) → Blanks g → Blanks h → Run n → named (g ++ 35 ∷ (h ++ (n ++ r))) ≡ n ++ r
named_is g h n r k j a =
    ap (λ (s : Bytes). skip between (rest s)) (hash_skip g (h ++ (n ++ r)) k) ∙ blanks_skip j (n ++ r) ∙ solid_skip (n ++ r) (run_solid r a)

-- how many bytes stand before r
before : (g h n r : Bytes) → length (g ++ 35 ∷ (h ++ (n ++ r))) - length r ≡ length (g ++ 35 ∷ (h ++ n))
before g h n r =
    omega (arith, length-append g (35 ∷ (h ++ (n ++ r))), length-append g (35 ∷ (h ++ n)), length-append h (n ++ r), length-append h n, length-append n r)

pub written_found : {l : Bytes} {f : Found} → Written l f → found_in l ≡ Some f
written_found (written g h n r {d = d} k j a e m) =
    let l = g ++ 35 ∷ (h ++ (n ++ r)) in
    let p : named l ≡ n ++ r = named_is g h n r k j a in
    let w : run (named l) ≡ n = ap run p ∙ run_is r a e in
    let q : past (named l) ≡ r = ap past p ∙ past_is r a e in
    let o : directive_of l ≡ Some d =
    (λ i. cond (hash (hash_skip g (h ++ (n ++ r)) k i)) (lookup table (w i)) None) ∙ listed_lookup m in
    ap₂ placed o (ap (λ (s : Bytes). length l - length s) q ∙ before g h n r)

-- From the directive found to the rule.
parted : {l s : Bytes} → Skipped l s → (s ≡ [] → ⊥) → (g : Bytes) × Blanks g × (l ≡ g ++ s)
parted (behind g s k h) n = (g, k, refl)
parted (swallowed g b k f) n = absurd (n refl)

placed_is : (o : Option Directive) (n : ℕ) (f : Found) → placed o n ≡ Some f → (o ≡ Some f.directive) × (n ≡ f.behind)
placed_is None n f e = let z : ◌≡◌ {A = ℕ} 0 1 = cc in absurd (omega arith)
placed_is (Some d) n f e = let q : record { directive = d; behind = n } ≡ f = cc in (ap (λ (g : Found). Some g.directive) q, ap (λ (g : Found). g.behind) q)

directive_is : (l : Bytes) (d : Directive) → directive_of l ≡ Some d → (skip between l ≡ 35 ∷ rest (skip between l)) × (lookup table (run (named l)) ≡ Some d)
directive_is l d e = go (hash (skip between l)) refl e
  where
    go : (b : Bool) → hash (skip between l) ≡ b → cond b (lookup table (run (named l))) None ≡ Some d
        → (skip between l ≡ 35 ∷ rest (skip between l)) × (lookup table (run (named l)) ≡ Some d)
    go true h e = (hash_is (skip between l) h, e)
    go false h e = let z : ◌≡◌ {A = ℕ} 0 1 = cc in absurd (omega arith)

-- no directive has an empty name
some_name : (n : Bytes) (d : Directive) → lookup table n ≡ Some d → n ≡ [] → ⊥
some_name n d e h = let q : None ≡ Some d = sym (ap (lookup table) h) ∙ e in let z : ◌≡◌ {A = ℕ} 0 1 = cc in omega arith

pub found_written : (l : Bytes) (f : Found) → found_in l ≡ Some f → Written l f
found_written l f e =
    let t = rest (skip between l) in
    let s = named l in
    let p = placed_is (directive_of l) (length l - length (past s)) f e in
    let d = directive_is l f.directive p.0 in
    let some = some_name (run s) f.directive d.1 in
    let a = parted (subst (λ (z : Bytes). Skipped l z) d.0 (skipped l)) (λ h. let z : ◌≡◌ {A = ℕ} 0 1 = cc in omega arith) in
    let b = parted (skipped t) (λ h. some (ap run h)) in
    let whole : l ≡ a.0 ++ 35 ∷ (b.0 ++ (run s ++ past s)) =
    a.2 ∙ ap (λ (z : Bytes). a.0 ++ 35 ∷ z) (b.2 ∙ ap (λ (z : Bytes). b.0 ++ z) (sym (run_past s))) in
    let at : length (a.0 ++ 35 ∷ (b.0 ++ run s)) ≡ f.behind =
    sym (before a.0 b.0 (run s) (past s)) ∙ ap (λ (z : Bytes). length z - length (past s)) (sym whole) ∙ p.1 in
    let w = written a.0 b.0 (run s) (past s) a.1 b.1 (run_run s some) (past_stops s) (lookup_listed table (run s) f.directive d.1) in
    subst (λ (z : Bytes). Written z f) (sym whole) (subst (λ (k : ℕ). Written (a.0 ++ 35 ∷ (b.0 ++ (run s ++ past s))) (record { directive = f.directive; behind = k })) at w)

-- What stands behind the name of a line's directive ends the line.
ends_line : {l : Bytes} {f : Found} → Written l f → drop f.behind l ≡ past (named l)
ends_line (written g h n r k j a e m) =
    let q : past (named (g ++ 35 ∷ (h ++ (n ++ r)))) ≡ r = ap past (named_is g h n r k j a) ∙ past_is r a e in
    let w : g ++ 35 ∷ (h ++ (n ++ r)) ≡ (g ++ 35 ∷ (h ++ n)) ++ r =
    ap (λ (z : Bytes). g ++ 35 ∷ z) (sym (append_assoc h n r)) ∙ sym (append_assoc g (35 ∷ (h ++ n)) r) in
    ap (drop (length (g ++ 35 ∷ (h ++ n)))) w ∙ drop_at (g ++ 35 ∷ (h ++ n)) r (length (g ++ 35 ∷ (h ++ n))) refl ∙ sym q

pub record Finds (l : Bytes) (o : Option Found) : Type 0 where
  pub value : o ≡ found_in l
  pub law : (f : Found) → (o ≡ Some f → Written l f) × (Written l f → o ≡ Some f)
  pub rest : (f : Found) → o ≡ Some f → drop f.behind l ≡ past (named l)

pub finds : (l : Bytes) (o : Option Found) → o ≡ found_in l → Finds l o
finds l o v =
    record {
      value = v;
      law = λ f. (λ e. found_written l f (sym v ∙ e), λ w. v ∙ written_found w);
      rest = λ f e. ends_line (found_written l f (sym v ∙ e));
    }

skip_length : {l s : Bytes} → Skipped l s → length s ≤ length l
skip_length (behind g s k h) = omega (arith, length-append g s)
skip_length (swallowed g b k f) = omega arith

pub past_length : (s q : Bytes) → q ≡ past s → length q ≤ length s
past_length s q e = omega (arith, ap length e, ap length (run_past s), length-append (run s) (past s))

-- a gap before a, which is `#` and t; a gap before s; and q behind the name
module _ (l a t s q : Bytes) (gap : a ≡ skip between l) (first : a ≡ 35 ∷ t) (next : s ≡ skip between t) (last : q ≡ past s) where
  pub rest_within : length q ≤ length l
  rest_within =
      let i = skip_length (skipped l) in
      let j = skip_length (skipped t) in
      omega (arith, past_length s q last, ap length gap, ap length first, ap length next)

  pub found_by : (o : Option Directive) (w : Bytes) → w ≡ run s → o ≡ lookup table w → placed o (length l - length q) ≡ found_in l
  found_by o w c e =
      let h : skip between l ≡ 35 ∷ t = sym gap ∙ first in
      let n : named l ≡ s = ap (λ (z : Bytes). skip between (rest z)) h ∙ sym next in
      let d : directive_of l ≡ lookup table (run s) = λ i. cond (hash (h i)) (lookup table (run (n i))) None in
      ap₂ placed (e ∙ ap (lookup table) c ∙ sym d) (ap (λ (z : Bytes). length l - length z) (last ∙ ap past (sym n)))

pub found_none : (l a : Bytes) → a ≡ skip between l → hash a ≡ false → None ≡ found_in l
found_none l a e h =
    let d : directive_of l ≡ None = ap (λ (b : Bool). cond b (lookup table (run (named l))) None) (ap hash (sym e) ∙ h) in
    sym (ap (λ (o : Option Directive). placed o (length l - length (past (named l)))) d)

-- the tests, by what stands behind `#`
pub hash_some : (s : Bytes) (o : Option (Bor Bytes)) → MatchOption o (hash s ≡ false) (λ t. s ≡ 35 ∷ t.now) → is_some o ≡ hash s
hash_some s (Some t) e = ap hash (sym e)
hash_some s None e = sym e

nil_length : (s : Bytes) → eqb (length s) 0 ≡ nil s
nil_length [] = refl
nil_length (x ∷ s) = ne_eqb (length (x ∷ s)) 0 (λ e. omega arith)

pub alone_of : {P : Bor Bytes → Type 0} (s : Bytes) (o : Option (Bor Bytes)) (b : Bool) → MatchOption o (hash s ≡ false) (λ t. s ≡ 35 ∷ t.now)
    → MatchOption o (b ≡ false) P → ((t : Bor Bytes) → P t → b ≡ eqb (length (skip between t.now)) 0) → b ≡ alone s
alone_of s (Some t) b e h k = k t h ∙ nil_length (skip between t.now) ∙ sym (ap alone e)
alone_of s None b e h k = h ∙ sym (and_left (hash s) (nil (skip between (rest s))) e)

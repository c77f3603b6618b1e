-- What a line that is accepted does to the names and the open chains.
--   Entered ns ns'      the names behind an accepted line are those before it, or these and one that was not among them
use Rattle.std.proofs.Common.{◌≡◌, ℕ, ◌+◌, ◌<◌, ◌≤◌, Bool, true, false, cond, not, ◌&&◌, eqb, leb, List, [], ◌∷◌, ◌++◌, length, is_some, Some, Ok, Err, Option, Result, sym, refl, ap, ◌∙◌, subst, arith, length-append, eq-eqb, leb-false}
use Rattle.std.specs.Str.{bytes_eq}
use Rattle.text.specs.Tokens.{Bytes}
use Rattle.names.specs.Names.{index_from, fresh, distinct_from, distinct}
use Rattle.sources.specs.Classified.{Opening, Line, plain, name, if, elif, endif, refuse}
use Rattle.sources.specs.Faults.{of_conditionals}
use Rattle.conditionals.specs.Shape.{Shape, has, shaped, furthered, ended, is_else}
use Rattle.preprocessor.specs.Plain.{State, Frame, step}

-- nothing is accepted that is refused
pub no_ok : {A F : Type 0} (f : F) (a : A) → Err f ≡ Ok a → ⊥
no_ok f a e = let z : ◌≡◌ {A = ℕ} 0 1 = cc in omega arith

pub accepted : {A F : Type 0} (b : Bool) (f : F) (r : Result A F) (a : A) → refuse b f r ≡ Ok a → (b ≡ false) × (r ≡ Ok a)
accepted true f r a e = absurd (no_ok f a e)
accepted false f r a e = (refl, e)

pub same_ok : {A F : Type 0} (a b : A) → ◌≡◌ {A = Result A F} (Ok a) (Ok b) → a ≡ b
same_ok a b e = cc

append_none : (l : List Bytes) → l ++ [] ≡ l
append_none [] = refl
append_none (y ∷ l) = ap (λ (z : List Bytes). y ∷ z) (append_none l)

append_one : (a : List Bytes) (y : Bytes) (ns : List Bytes) → (a ++ y ∷ []) ++ ns ≡ a ++ y ∷ ns
append_one [] y ns = refl
append_one (z ∷ a) y ns = ap (λ (l : List Bytes). z ∷ l) (append_one a y ns)

parts : (p q : Bool) → (p && q) ≡ true → (p ≡ true) × (q ≡ true)
parts true q e = (refl, e)
parts false q e = let z : ◌≡◌ {A = ℕ} 0 1 = cc in absurd (omega arith)

joins : (p q : Bool) → p ≡ true → q ≡ true → (p && q) ≡ true
joins true q e f = f
joins false q e f = e

opposite : (b : Bool) → not b ≡ true → b ≡ false
opposite true e = sym e
opposite false e = refl

-- a fresh name behind distinct ones
pub distinct_more : (seen ns : List Bytes) (x : Bytes) → distinct_from seen ns ≡ true → fresh (seen ++ ns) x ≡ true → distinct_from seen (ns ++ x ∷ []) ≡ true
distinct_more seen [] x d f = joins (fresh seen x) true (ap (λ (l : List Bytes). fresh l x) (sym (append_none seen)) ∙ f) refl
distinct_more seen (y ∷ ns) x d f =
    let h = parts (fresh seen y) (distinct_from (seen ++ y ∷ []) ns) d in
    joins (fresh seen y) (distinct_from (seen ++ y ∷ []) (ns ++ x ∷ [])) h.0
    (distinct_more (seen ++ y ∷ []) ns x h.1 (ap (λ (l : List Bytes). fresh l x) (append_one seen y ns) ∙ f))

pub same_self : (x : Bytes) → bytes_eq x x ≡ true
same_self [] = refl
same_self (b ∷ x) = joins (eqb b b) (bytes_eq x x) (eq-eqb b b refl) (same_self x)

found_or : (b : Bool) (i : ℕ) (o : Option ℕ) → is_some o ≡ true → is_some (cond b (Some i) o) ≡ true
found_or true i o e = refl
found_or false i o e = e

found_by : (b : Bool) (i : ℕ) (o : Option ℕ) → b ≡ true → is_some (cond b (Some i) o) ≡ true
found_by true i o e = refl
found_by false i o e = let z : ◌≡◌ {A = ℕ} 0 1 = cc in absurd (omega arith)

-- the name behind the others is found
pub index_there : (i : ℕ) (ns : List Bytes) (x : Bytes) → is_some (index_from i (ns ++ x ∷ []) x) ≡ true
index_there i [] x = found_by (bytes_eq x x) i (index_from (i + 1) [] x) (same_self x)
index_there i (y ∷ ns) x = found_or (bytes_eq y x) i (index_from (i + 1) (ns ++ x ∷ []) x) (index_there (i + 1) ns x)

pub data Entered (ns : List Bytes) : List Bytes → Type 0 where
  none_more : Entered ns ns
  one_more : (x : Bytes) → has x ns ≡ false → length ns < 64 → Entered ns (ns ++ x ∷ [])

pub entered_few : (ns ns' : List Bytes) → Entered ns ns' → length ns ≤ 64 → length ns' ≤ 64
entered_few ns ns' none_more h = h
entered_few ns ns' (one_more x f l) h = omega (arith, length-append ns (x ∷ []))

pub entered_distinct : (ns ns' : List Bytes) → Entered ns ns' → distinct ns ≡ true → distinct ns' ≡ true
entered_distinct ns ns' none_more d = d
entered_distinct ns ns' (one_more x f l) d = distinct_more [] ns x d (ap not f)

-- the line x, accepted, enters its name if it is a `define`, and is as deep in chains as the preprocessor's state behind it
pub record Accepted (s s' : Shape) (x : Line) (σ : State) : Type 0 where
  pub names : Entered s.names s'.names
  pub deep : length s'.chains ≡ length (step σ x).stack

pub defined_there : (n : ℕ) (s s' : Shape) (x l : Bytes) → shaped n s (name x true l) ≡ Ok s' → has x s'.names ≡ true
defined_there n s s' x l e = by (has x s.names) refl e
  where
    by : (b : Bool) → has x s.names ≡ b
        → cond (true && not b) (refuse (leb 64 (length s.names)) (of_conditionals 20 n) (Ok (record { chains = s.chains; blocks = s.blocks; names = s.names ++ x ∷ [] }))) (Ok s) ≡ Ok s'
        → has x s'.names ≡ true
    by true h q = ap (λ (t : Shape). has x t.names) (sym (same_ok s s' q)) ∙ h
    by false h q =
        ap (λ (t : Shape). has x t.names) (sym (same_ok _ s' (accepted (leb 64 (length s.names)) (of_conditionals 20 n) _ s' q).1)) ∙ index_there 0 s.names x

pub room_for_if : (n : ℕ) (s s' : Shape) (d : Opening) → shaped n s (if d) ≡ Ok s' → length s.chains < 32
room_for_if n s s' d e = leb-false 32 (length s.chains) (accepted (leb 32 (length s.chains)) (of_conditionals 18 n) _ s' e).0

after_name : (n : ℕ) (s s' : Shape) (x : Bytes) (v : Bool) (l : Bytes) (σ : State) → length s.chains ≡ length σ.stack → shaped n s (name x v l) ≡ Ok s'
    → Accepted s s' (name x v l) σ
after_name n s s' x v l σ h e = by (v && not (has x s.names)) refl e
  where
    entering : Shape
    entering = record { chains = s.chains; blocks = s.blocks; names = s.names ++ x ∷ [] }

    by : (b : Bool) → (v && not (has x s.names)) ≡ b → cond b (refuse (leb 64 (length s.names)) (of_conditionals 20 n) (Ok (record { chains = s.chains; blocks = s.blocks; names = s.names ++ x ∷ [] }))) (Ok s) ≡ Ok s'
        → Accepted s s' (name x v l) σ
    by true g q =
        let r = accepted (leb 64 (length s.names)) (of_conditionals 20 n) _ s' q in
        subst (λ (t : Shape). Accepted s t (name x v l) σ) (same_ok _ s' r.1)
        (record { names = one_more x (opposite (has x s.names) (parts v (not (has x s.names)) g).1) (leb-false 64 (length s.names) r.0); deep = h })
    by false g q = subst (λ (t : Shape). Accepted s t (name x v l) σ) (same_ok s s' q) (record { names = none_more; deep = h })

after_further : (n : ℕ) (s s' : Shape) (b : Bool) (cs : List Bool) (fs : List Frame) → length cs ≡ length fs → furthered n b cs s ≡ Ok s'
    → Entered s.names s'.names × (length s'.chains ≡ length fs)
after_further n s s' b [] fs h e = absurd (no_ok _ s' e)
after_further n s s' b (true ∷ cs) fs h e = absurd (no_ok _ s' e)
after_further n s s' b (false ∷ cs) fs h e =
    let q = same_ok _ s' (accepted (leb 255 s.blocks) (of_conditionals 19 n) _ s' e).1 in
    (subst (λ (t : Shape). Entered s.names t.names) q none_more, subst (λ (t : Shape). length t.chains ≡ length fs) q h)

further_deep : (d : Opening) (σ : State) (fs : List Frame) → length fs ≡ length (step (record { env = σ.env; stack = fs }) (elif d)).stack
further_deep d σ [] = refl
further_deep d σ (f ∷ fs) = refl

after_end : (n : ℕ) (s s' : Shape) (l : Bytes) (σ : State) (cs : List Bool) (fs : List Frame) → length cs ≡ length fs → ended n cs s ≡ Ok s'
    → Entered s.names s'.names × (length s'.chains ≡ length (step (record { env = σ.env; stack = fs }) (endif l)).stack)
after_end n s s' l σ [] fs h e = absurd (no_ok _ s' e)
after_end n s s' l σ (c ∷ cs) [] h e = absurd (omega (arith, h))
after_end n s s' l σ (c ∷ cs) (f ∷ fs) h e =
    let q = same_ok _ s' e in
    (subst (λ (t : Shape). Entered s.names t.names) q none_more, subst (λ (t : Shape). length t.chains ≡ length fs) q (omega (arith, h)))

pub after_line : (n : ℕ) (s s' : Shape) (x : Line) (σ : State) → length s.chains ≡ length σ.stack → shaped n s x ≡ Ok s' → Accepted s s' x σ
after_line n s s' (plain l) σ h e = subst (λ (t : Shape). Accepted s t (plain l) σ) (same_ok s s' e) (record { names = none_more; deep = h })
after_line n s s' (name x v l) σ h e = after_name n s s' x v l σ h e
after_line n s s' (if d) σ h e =
    subst (λ (t : Shape). Accepted s t (if d) σ) (same_ok _ s' (accepted (leb 255 s.blocks) (of_conditionals 19 n) _ s' (accepted (leb 32 (length s.chains)) (of_conditionals 18 n) _ s' e).1).1)
    (record { names = none_more; deep = omega (arith, h) })
after_line n s s' (elif d) σ h e =
    let p = after_further n s s' (is_else d.when) s.chains σ.stack h e in
    record { names = p.0; deep = p.1 ∙ further_deep d σ σ.stack }
after_line n s s' (endif l) σ h e =
    let p = after_end n s s' l σ s.chains σ.stack h e in
    record { names = p.0; deep = p.1 }

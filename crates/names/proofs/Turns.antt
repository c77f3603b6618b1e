-- The lists of names that the two functions go over. Assumes nothing.
--   alike x        a name has the bytes x
--   index_is       the place of x is the first whose name is alike
--   new_at ns p    the name of p is not among those of ns before its place
--   all_is         no two are alike where that holds of each name
use Rattle.std.proofs.Common.{◌≡◌, ℕ, suc, ◌+◌, Bool, true, false, cond, ltb, not, ◌&&◌, List, [], ◌∷◌, ◌++◌, length, take, Some, None, sym, refl, ap, ◌∙◌, arith, Bor, append_assoc, length-append}
use Rattle.std.proofs.Math.Seq.{take-append_seam}
use Rattle.std.specs.List.{position, position_or_len, list_all, enumerate_from}
use Rattle.std.proofs.lemmas.Bool.Decides.{nat_tests}
use Rattle.std.specs.Str.{bytes_eq}
use Rattle.names.specs.Names.{texts, index_from, index_of, fresh, distinct_from, distinct}

abbrev Part : Type 0
Part = Bor (List ℕ)

abbrev pub alike : List ℕ → Part → Bool
alike x r = bytes_eq r.now x

shift : (n l i : ℕ) → cond (ltb n l) (Some (i + 1 + n)) None ≡ cond (ltb (1 + n) (suc l)) (Some (i + (1 + n))) None
shift n l i = grind (arith, nat_tests)

first : (l i : ℕ) → Some i ≡ cond (ltb 0 (suc l)) (Some (i + 0)) None
first l i = grind (arith, nat_tests)

index_on : (ns : List Part) (x : List ℕ) (i : ℕ) → index_from i (texts ns) x ≡ cond (ltb (position_or_len (alike x) ns) (length ns)) (Some (i + position_or_len (alike x) ns)) None
index_on [] x i = refl
index_on (r ∷ ns) x i = go (alike x r) (index_on ns x (i + 1))
  where
    go : (b : Bool) → index_from (i + 1) (texts ns) x ≡ cond (ltb (position_or_len (alike x) ns) (length ns)) (Some (i + 1 + position_or_len (alike x) ns)) None
        → cond b (Some i) (index_from (i + 1) (texts ns) x)
        ≡ cond (ltb (cond (not b) (1 + position_or_len (alike x) ns) 0) (suc (length ns))) (Some (i + cond (not b) (1 + position_or_len (alike x) ns) 0)) None
    go true e = first (length ns) i
    go false e = e ∙ shift (position_or_len (alike x) ns) (length ns) i

pub index_is : (ns : List Part) (x : List ℕ) → position (alike x) ns ≡ index_of (texts ns) x
index_is ns x = sym (index_on ns x 0 ∙ ap (λ (n : ℕ). cond (ltb (position_or_len (alike x) ns) (length ns)) (Some n) None) (let z : 0 + position_or_len (alike x) ns ≡ position_or_len (alike x) ns = omega arith in z))

pub texts_append : (a b : List Part) → texts (a ++ b) ≡ texts a ++ texts b
texts_append [] b = refl
texts_append (r ∷ a) b = ap (λ (l : List (List ℕ)). r.now ∷ l) (texts_append a b)

abbrev pub new_at : List Part → ℕ × Part → Bool
new_at ns p = fresh (texts (take p.0 ns)) p.1.now

all_on : (ns a b : List Part) (n : ℕ) → n ≡ length a → ns ≡ a ++ b → list_all (new_at ns) (enumerate_from n b) ≡ distinct_from (texts a) (texts b)
all_on ns a [] n l e = refl
all_on ns a (r ∷ b) n l e =
    let seen : take n ns ≡ a = ap (λ (m : ℕ). take m ns) l ∙ ap (take (length a)) e ∙ take-append_seam a (r ∷ b) in
    let ih = all_on ns (a ++ r ∷ []) b (n + 1) (omega (arith, length-append a (r ∷ []))) (e ∙ sym (append_assoc a (r ∷ []) b)) in
    ap (λ (l : List Part). fresh (texts l) r.now && list_all (new_at ns) (enumerate_from (n + 1) b)) seen
    ∙ ap (λ (t : Bool). fresh (texts a) r.now && t) (ih ∙ ap (λ (l : List (List ℕ)). distinct_from l (texts b)) (texts_append a (r ∷ [])))

pub all_is : (ns : List Part) → list_all (new_at ns) (enumerate_from 0 ns) ≡ distinct (texts ns)
all_is ns = all_on ns [] ns 0 refl refl

-- The flags of the names with an entry.
use Rattle.std.proofs.Common.{◌≡◌, ℕ, suc, ◌+◌, ◌%◌, ◌^◌, ◌<◌, ◌≤◌, min, Bool, true, false, cond, eqb, ◌≢◌, List, [], ◌∷◌, ◌++◌, length, get_or, set, replicate, is_some, Some, None, Option, sym, refl, ap, ◌∙◌, ⊎_elim, arith, get_or-set_other, get_or-set_same, pow_mono}
use native.Mathlib.Nat.{div-eq_of_lt}
use lib.ListN.{get_or-replicate, length-replicate}
use Rattle.std.proofs.lemmas.Slice.Eq.{bytes_eq-Decides}
use Rattle.std.proofs.lemmas.List.{get_or_past, set_past}
use Rattle.std.proofs.lemmas.Bool.{cases_lt, false≢true}
use Rattle.std.specs.Str.{bytes_eq}
use Rattle.stores.specs.Sets.{on}
use Rattle.text.specs.Tokens.{Bytes}
use Rattle.names.specs.Names.{index_from, index_of}
use Rattle.truth.specs.Worked.{flag_of, env_of}
use Rattle.preprocessor.specs.Plain.{is_on, defined_in}
use Rattle.preprocessor.specs.Represented.{marked}

none_some : (i : ℕ) → ◌≡◌ {A = Option ℕ} None (Some i) → ⊥
none_some i e = let z : ◌≡◌ {A = ℕ} 0 1 = cc in omega arith

some_same : (i j : ℕ) → ◌≡◌ {A = Option ℕ} (Some i) (Some j) → i ≡ j
some_same i j e = cc

-- the place of a name lies in the list
index_from_within : (ns : List Bytes) (x : Bytes) (j i : ℕ) → index_from j ns x ≡ Some i → (j ≤ i) × (i < j + length ns)
index_from_within [] x j i e = absurd (none_some i e)
index_from_within (n ∷ ns) x j i e = by_test (bytes_eq n x) e (λ q. index_from_within ns x (j + 1) i q)
  where
    by_test : (b : Bool) → cond b (Some j) (index_from (j + 1) ns x) ≡ Some i → (index_from (j + 1) ns x ≡ Some i → (j + 1 ≤ i) × (i < j + 1 + length ns))
        → (j ≤ i) × (i < j + suc (length ns))
    by_test true q h = let s = some_same j i q in (omega (arith, s), omega (arith, s))
    by_test false q h = let p = h q in (omega (arith, p.0), omega (arith, p.1))

pub index_within : (ns : List Bytes) (x : Bytes) (i : ℕ) → index_of ns x ≡ Some i → i < length ns
index_within ns x i e = let p = index_from_within ns x 0 i e in omega (arith, p.1)

-- two names at one place are alike
index_same : (ns : List Bytes) (x y : Bytes) (j i : ℕ) → index_from j ns x ≡ Some i → index_from j ns y ≡ Some i → x ≡ y
index_same [] x y j i e f = absurd (none_some i e)
index_same (n ∷ ns) x y j i e f = by_tests (bytes_eq n x) (bytes_eq n y) (bytes_eq-Decides n x).0 (bytes_eq-Decides n y).0 (index_same ns x y (j + 1) i) e f
  where
    by_tests : (a b : Bool) → (a ≡ true → n ≡ x) → (b ≡ true → n ≡ y) → (index_from (j + 1) ns x ≡ Some i → index_from (j + 1) ns y ≡ Some i → x ≡ y)
        → cond a (Some j) (index_from (j + 1) ns x) ≡ Some i → cond b (Some j) (index_from (j + 1) ns y) ≡ Some i → x ≡ y
    by_tests true true p q k e f = sym (p refl) ∙ q refl
    by_tests true false p q k e f = absurd (omega (arith, some_same j i e, (index_from_within ns y (j + 1) i f).0))
    by_tests false true p q k e f = absurd (omega (arith, some_same j i f, (index_from_within ns x (j + 1) i e).0))
    by_tests false false p q k e f = k e f

-- a name behind the others
index_more : (ns : List Bytes) (x y : Bytes) (j : ℕ) → index_from j (ns ++ x ∷ []) y ≡ cond (is_some (index_from j ns y)) (index_from j ns y) (cond (bytes_eq x y) (Some (j + length ns)) None)
index_more [] x y j = let z : j ≡ j + 0 = omega arith in ap (λ (k : ℕ). cond (bytes_eq x y) (Some k) None) z
index_more (n ∷ ns) x y j = by_test (bytes_eq n y) (index_more ns x y (j + 1))
  where
    z : j + 1 + length ns ≡ j + suc (length ns)
    z = omega arith

    by_test : (b : Bool) → index_from (j + 1) (ns ++ x ∷ []) y ≡ cond (is_some (index_from (j + 1) ns y)) (index_from (j + 1) ns y) (cond (bytes_eq x y) (Some (j + 1 + length ns)) None)
        → cond b (Some j) (index_from (j + 1) (ns ++ x ∷ []) y)
        ≡ cond (is_some (cond b (Some j) (index_from (j + 1) ns y))) (cond b (Some j) (index_from (j + 1) ns y)) (cond (bytes_eq x y) (Some (j + suc (length ns))) None)
    by_test true h = refl
    by_test false h =
        h
        ∙ ap (λ (k : ℕ). cond (is_some (index_from (j + 1) ns y)) (index_from (j + 1) ns y) (cond (bytes_eq x y) (Some k) None)) z

pub env_more : (ns : List Bytes) (x y : Bytes) (fs : List Bool) → ((i : ℕ) → length ns ≤ i → get_or fs i false ≡ false) → env_of (ns ++ x ∷ []) fs y ≡ env_of ns fs y
env_more ns x y fs h = ap (λ (o : Option ℕ). flag_of o fs) (index_more ns x y 0) ∙ by_index (index_of ns y)
  where
    by_test : (b : Bool) → flag_of (cond b (Some (0 + length ns)) None) fs ≡ false
    by_test true = h (0 + length ns) (omega arith)
    by_test false = refl

    by_index : (o : Option ℕ) → flag_of (cond (is_some o) o (cond (bytes_eq x y) (Some (0 + length ns)) None)) fs ≡ flag_of o fs
    by_index None = by_test (bytes_eq x y)
    by_index (Some i) = refl

-- what is noted of one name, read again
noted_same : (fs : List Bool) (i : ℕ) (v : Bool) → (v ≡ true → i < length fs) → v ≡ get_or (set fs i v) i false
noted_same fs i true h = sym (get_or-set_same fs i true false (h refl))
noted_same fs i false h = ⊎_elim
    (λ (lt : i < length fs). sym (get_or-set_same fs i false false lt))
    (λ (le : length fs ≤ i). sym (ap (λ (l : List Bool). get_or l i false) (set_past fs i false le) ∙ get_or_past fs i false le))
    (cases_lt i (length fs))

pub noted : (ns : List Bytes) (fs : List Bool) (x y : Bytes) (v : Bool) → (v ≡ true → (is_some (index_of ns x) ≡ true) × (length ns ≤ length fs))
    → cond (bytes_eq x y) v (env_of ns fs y) ≡ env_of ns (marked (index_of ns x) v fs) y
noted ns fs x y v h = by_test (bytes_eq x y) (bytes_eq-Decides x y)
  where
    here : (o : Option ℕ) → index_of ns x ≡ o → (v ≡ true → is_some o ≡ true) → v ≡ flag_of o (marked o v fs)
    here None e k = by_value v k
      where
        by_value : (w : Bool) → (w ≡ true → false ≡ true) → w ≡ false
        by_value true q = absurd (false≢true (q refl))
        by_value false q = refl
    here (Some i) e k = noted_same fs i v (λ q. omega (arith, index_within ns x i e, (h q).1))

    there : (o p : Option ℕ) → index_of ns x ≡ o → index_of ns y ≡ p → (x ≡ y → ⊥) → flag_of p fs ≡ flag_of p (marked o v fs)
    there None p e f ne = refl
    there (Some i) None e f ne = refl
    there (Some i) (Some j) e f ne =
        let apart : j ≢ i = λ q. ne (index_same ns x y 0 i e (f ∙ ap Some q)) in
        sym (get_or-set_other fs i j v false apart)

    by_test : (b : Bool) → (b ≡ true → x ≡ y) × (x ≡ y → b ≡ true) → cond b v (env_of ns fs y) ≡ env_of ns (marked (index_of ns x) v fs) y
    by_test true d =
        here (index_of ns x) refl (λ q. (h q).0) ∙ ap (λ (z : Bytes). env_of ns (marked (index_of ns x) v fs) z) (d.0 refl)
    by_test false d = there (index_of ns x) (index_of ns y) refl refl (λ q. false≢true (d.1 q))

-- there is no flag at a place past the last
pub unnoted : (a v : Bool) (fs : List Bool) (o : Option ℕ) (i : ℕ) → o ≡ Some i → length fs ≤ i → fs ≡ cond a (marked o v fs) fs
unnoted true v fs o i e h = sym (ap (λ (p : Option ℕ). marked p v fs) e ∙ set_past fs i v h)
unnoted false v fs o i e h = refl

-- what is noted is noted of a name
pub noted_beyond : (ns : List Bytes) (fs : List Bool) (x : Bytes) (v : Bool) (i : ℕ) → length ns ≤ i → get_or (marked (index_of ns x) v fs) i false ≡ get_or fs i false
noted_beyond ns fs x v i h = by_index (index_of ns x) (index_within ns x)
  where
    by_index : (o : Option ℕ) → ((j : ℕ) → o ≡ Some j → j < length ns) → get_or (marked o v fs) i false ≡ get_or fs i false
    by_index None k = refl
    by_index (Some j) k = let ne : i ≢ j = omega (arith, k j refl) in get_or-set_other fs j i v false ne

-- the bits of a configuration
pub on_high : (i k : ℕ) → 32 ≤ i → k < 2 ^ 32 → on i k ≡ false
on_high i k h lt =
    let small : k < 2 ^ i = omega (arith, pow_mono {i = 32} {j = i} h) in
    ap (λ (z : ℕ). eqb (z % 2) 1) (div-eq_of_lt small)

pub record Bits (n k : ℕ) (fs : List Bool) : Type 0 where
  pub below : (i : ℕ) → i < n → get_or fs i false ≡ on i k
  pub above : (i : ℕ) → n ≤ i → get_or fs i false ≡ false

pub bits_none : (n k : ℕ) → Bits 0 k (replicate n false)
bits_none n k = record { below = λ i h. absurd (omega arith); above = λ i h. all_false n i }
  where
    all_false : (n i : ℕ) → get_or (replicate n false) i false ≡ false
    all_false n i = ⊎_elim
        (λ (lt : i < n). get_or-replicate n i false false lt)
        (λ (le : n ≤ i). get_or_past (replicate n false) i false (omega (arith, length-replicate n false)))
        (cases_lt i n)

pub bits_more : (n k : ℕ) (fs : List Bool) (b : Bool) → n < length fs → b ≡ on n k → Bits n k fs → Bits (n + 1) k (set fs n b)
bits_more n k fs b lt e h = record {
  below = λ i l. ⊎_elim
      (λ (below : i < n). let ne : i ≢ n = omega arith in get_or-set_other fs n i b false ne ∙ h.below i below)
      (λ (rest : n ≤ i). let here : i ≡ n = omega (arith, l, rest) in ap (λ (j : ℕ). get_or (set fs n b) j false) here ∙ get_or-set_same fs n b false lt ∙ e ∙ ap (λ (j : ℕ). on j k) (sym here))
      (cases_lt i n);
  above = λ i l. let ne : i ≢ n = omega arith in get_or-set_other fs n i b false ne ∙ h.above i (omega (arith, l));
}

pub env_began : (ns : List Bytes) (k : ℕ) (fs : List Bool) → k < 2 ^ 32 → Bits (min (length ns) 32) k fs → (y : Bytes) → defined_in ns k y ≡ env_of ns fs y
env_began ns k fs lt b y = by_index (index_of ns y) (index_within ns y)
  where
    by_index : (o : Option ℕ) → ((i : ℕ) → o ≡ Some i → i < length ns) → is_on o k ≡ flag_of o fs
    by_index None h = refl
    by_index (Some i) h = ⊎_elim
        (λ (l : i < 32). sym (b.below i (omega (arith, h i refl))))
        (λ (l : 32 ≤ i). on_high i k l lt ∙ sym (b.above i (omega arith)))
        (cases_lt i 32)

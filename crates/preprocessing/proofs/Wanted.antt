-- What is wanted of a source, by what was tested.
use Rattle.std.proofs.Common.{◌≡◌, ℕ, ◌*◌, ◌%◌, ◌^◌, ◌<◌, ◌≤◌, Bool, true, false, cond, not, ltb, List, [], ◌++◌, length, Some, None, Ok, Err, Option, Result, sym, refl, ap, ◌∙◌, subst, ap₂, vec_items, Bor, arith, le-ltb, lt-ltb, le-leb}
use Rattle.std.proofs.lemmas.Nat.{one_shl}
use Rattle.faults.specs.declared.Refusal.{Refusal}
use Rattle.faults.specs.declared.Layer.TheVariants.{Store, Session}
use Rattle.text.specs.Tokens.{Bytes}
use Rattle.names.specs.Names.{texts, distinct}
use Rattle.preprocessing.proofs.Turns.{length_texts}
use Rattle.sources.specs.Lines.{lines, is_too_large, joined}
use Rattle.sources.specs.Classified.{Line, refuse, changed}
use Rattle.sources.specs.Faults.{of_lines, line_fault}
use Rattle.sources.specs.declared.fault.LineFault.{LineFault}
use Rattle.sources.specs.declared.fault.LineFault.TheVariants.{TooLarge}
use Rattle.conditionals.specs.Shape.{Shape, begun}
use Rattle.conditionals.specs.Reading.{read_lines}
use Rattle.conditionals.specs.Answers.{shape_of, beginning, start_of}
use Rattle.conditionals.specs.declared.Shape as code
use Rattle.preprocessor.specs.Plain.{output, defined_in, began, preprocessed}
use Rattle.preprocessor.specs.Represented.{Represents}
use Rattle.preprocessing.specs.declared.Run.{Run}
use Rattle.preprocessing.proofs.Rendered.{read_at_places}
use Rattle.sources.specs.Places.{placed}
use Rattle.preprocessing.specs.Faults.{outside}
use Rattle.preprocessing.specs.Outcome.{wanted}
use Rattle.preprocessing.specs.Lines.{Answer, rendered, Going}

taken : {A F : Type 0} (b : Bool) (f : F) (r : Result A F) → b ≡ true → refuse b f r ≡ Err f
taken true f r e = refl
taken false f r e = let z : ◌≡◌ {A = ℕ} 0 1 = cc in absurd (omega arith)

passed : {A F : Type 0} (b : Bool) (f : F) (r : Result A F) → b ≡ false → refuse b f r ≡ r
passed true f r e = let z : ◌≡◌ {A = ℕ} 0 1 = cc in absurd (omega arith)
passed false f r e = refl

pub right_size : (large : Bool) (r : Result (Unit {0}) LineFault) (u : Unit {0}) → r ≡ cond large (Err TooLarge) (Ok tt) → r ≡ Ok u → large ≡ false
right_size true r u e g = let z : ◌≡◌ {A = ℕ} 0 1 = cc in absurd (omega arith)
right_size false r u e g = refl

module _ (ns : List Bytes) (k : ℕ) (t : Bytes) where
  abbrev inner : Answer
  inner = refuse (not (ltb k (2 ^ length ns))) (outside 4 Session) (preprocessed ns k t)

  abbrev middle : Answer
  middle = refuse (not (distinct ns)) (outside 23 Session) inner

  pub too_many : 24 < length ns → wanted ns k t ≡ Err (outside 7 Store)
  too_many h = taken (ltb 24 (length ns)) (outside 7 Store) middle (lt-ltb 24 (length ns) h)

  few : length ns ≤ 24 → wanted ns k t ≡ middle
  few h = passed (ltb 24 (length ns)) (outside 7 Store) middle (le-ltb 24 (length ns) h)

  pub alike : length ns ≤ 24 → false ≡ distinct ns → wanted ns k t ≡ Err (outside 23 Session)
  alike h d = few h ∙ taken (not (distinct ns)) (outside 23 Session) inner (ap not (sym d))

  apart : length ns ≤ 24 → true ≡ distinct ns → wanted ns k t ≡ inner
  apart h d = few h ∙ passed (not (distinct ns)) (outside 23 Session) inner (ap not (sym d))

  pub beyond : length ns ≤ 24 → true ≡ distinct ns → 2 ^ length ns ≤ k → wanted ns k t ≡ Err (outside 4 Session)
  beyond h d b = apart h d ∙ taken (not (ltb k (2 ^ length ns))) (outside 4 Session) (preprocessed ns k t) (ap not (le-ltb k (2 ^ length ns) b))

  within : length ns ≤ 24 → true ≡ distinct ns → k < 2 ^ length ns → wanted ns k t ≡ preprocessed ns k t
  within h d b = apart h d ∙ passed (not (ltb k (2 ^ length ns))) (outside 4 Session) (preprocessed ns k t) (ap not (lt-ltb k (2 ^ length ns) b))

  abbrev whole : Answer
  whole = rendered (placed false 1 (lines t)) (begun ns) (began (defined_in ns k))

  abbrev from : Result (List Line) Refusal → Answer
  from r = changed (λ xs. joined (output xs (began (defined_in ns k)))) r

  abbrev Sized : Type 0
  Sized = Result (Unit {0}) LineFault

  abbrev size_of : Bool → Sized
  size_of large = cond large (Err TooLarge) (Ok tt)

  pub too_large : (r : Sized) (f : LineFault) → length ns ≤ 24 → true ≡ distinct ns → k < 2 ^ length ns → r ≡ size_of (is_too_large t) → r ≡ Err f
      → wanted ns k t ≡ Err (line_fault f)
  too_large r f h d b e g = within h d b ∙ by (is_too_large t) (sym g ∙ e)
    where
      by : (z : Bool) → ◌≡◌ {A = Sized} (Err f) (size_of z) → from (refuse z (of_lines 8 0) (read_lines false 1 (begun ns) (lines t))) ≡ Err (line_fault f)
      by true q = let e : f ≡ TooLarge = cc in ap (λ (x : LineFault). Err (line_fault x)) (sym e)
      by false q = let z : ◌≡◌ {A = ℕ} 0 1 = cc in absurd (omega arith)

  pub sized : (r : Sized) (u : Unit {0}) → length ns ≤ 24 → true ≡ distinct ns → k < 2 ^ length ns → r ≡ size_of (is_too_large t) → r ≡ Ok u → wanted ns k t ≡ whole
  sized r u h d b e g =
      within h d b ∙ ap (λ (z : Bool). from (refuse z (of_lines 8 0) (read_lines false 1 (begun ns) (lines t)))) (right_size (is_too_large t) r u e g)
      ∙ ap from (sym (read_at_places false 1 (lines t) (begun ns)))

  nothing_before : (r : Answer) → r ≡ changed (λ more. [] ++ more) r
  nothing_before (Ok bs) = refl
  nothing_before (Err f) = refl

  pub starts : (s : code.Shape) → length ns ≤ 24 → start_of (Some s) ≡ beginning ns → shape_of s ≡ begun ns
  starts s h e = let g : ◌≡◌ {A = Option Shape} (Some (shape_of s)) (Some (begun ns)) = e ∙ ap (λ (b : Bool). cond b (Some (begun ns)) None) (le-leb (length ns) 64 (omega (arith, h))) in cc

  -- the standing before the first line
  pub first : (r : Run) → vec_items r.output ≡ [] → wanted ns k t ≡ whole → shape_of r.shape ≡ begun ns → Represents ns r.state (began (defined_in ns k))
      → Going (wanted ns k t) r (placed false 1 (lines t))
  first r o w e q =
      record {
        state = began (defined_in ns k);
        stands = subst (λ (x : Shape). Represents x.names r.state (began (defined_in ns k))) (sym e) q;
        deep = ap (λ (x : Shape). length x.chains) e;
        left = w ∙ nothing_before whole ∙ ap₂ (λ (x : Shape) (bs : Bytes). changed (λ more. bs ++ more) (rendered (placed false 1 (lines t)) x (began (defined_in ns k)))) (sym e) (sym o);
      }

-- the number of configurations, as the code computes it
shifted : (n : ℕ) → n ≤ 24 → (1 * 2 ^ n) % 4294967296 ≡ 2 ^ n
shifted n h = omega (arith, one_shl n 32 (omega (arith, h)))

module _ (rs : List (Bor Bytes)) (k : ℕ) (h : length rs ≤ 24) where
  pub few_names : length (texts rs) ≤ 24
  few_names = omega (arith, h, length_texts rs)

  all_of : (1 * 2 ^ length rs) % 4294967296 ≡ 2 ^ length (texts rs)
  all_of = shifted (length rs) h ∙ ap (λ (n : ℕ). 2 ^ n) (sym (length_texts rs))

  pub low_number : k < (1 * 2 ^ length rs) % 4294967296 → k < 2 ^ length (texts rs)
  low_number l = omega (arith, l, all_of)

  pub high_number : (1 * 2 ^ length rs) % 4294967296 ≤ k → 2 ^ length (texts rs) ≤ k
  high_number l = omega (arith, l, all_of)

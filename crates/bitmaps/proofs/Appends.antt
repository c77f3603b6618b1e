-- Words to which an operation appended a slot.
use Rattle.std.proofs.Common.{◌≡◌, ℕ, ◌+◌, ◌-◌, ◌*◌, ◌/◌, ◌%◌, ◌^◌, ◌<◌, ◌≤◌, Bool, true, false, not, ◌&&◌, ◌||◌, eqb, ltb, leb, List, map, length, get_or, take, set, None, sym, refl, ap, ◌∙◌, subst, ⊎_elim, arith, length-set, get_or-set_other, get_or-set_same}
use mathlib.Core.Path.{fun_ext}
use Rattle.std.specs.List.{range_with_len}
use Rattle.std.proofs.lemmas.List.FromFn.{length-map-range_with_len, get_or-map-range_with_len, take-map-range_with_len, fill_by_all}
use Rattle.std.proofs.lemmas.Bool.{cases_lt, leb-true, leb-false, ltb-true, ltb-false, eqb-true, eqb-false, and_cases, and_parts, cond_both}
use Rattle.stores.specs.Sets.{empty, on}
use Rattle.stores.specs.Model.{Model, set_at, kept, Appended}
use Rattle.stores.specs.Outcome.{Op, Accepted, refusal, result}
use Rattle.bitmaps.specs.Stores.{with_words, rollback}
use Rattle.bitmaps.specs.Laws.{same_words}
use Rattle.bitmaps.specs.declared.Bitmaps.{Bitmaps}
use Rattle.bitmaps.specs.Layout.{width, used, slots, start}
use Rattle.bitmaps.specs.Meaning.{slot, model_of, means, ValidOf, Valid, cut_word, cut_words}
use Rattle.bitmaps.specs.Operations.{op_of, Operands, bit_at, Written}
use Rattle.bitmaps.specs.declared.operation.Operation.{Operation}
use Rattle.stores.specs.declared.connective.Connective.TheVariants.{Both, Either, Less}
use Rattle.bitmaps.specs.declared.operation.Operation.TheVariants.{Switch, Join}
use Rattle.bitmaps.proofs.Bits.{on_ones}
use Rattle.bitmaps.specs.Cutting.{starts, size_means, set_means, start_next, start_before}
use Rattle.bitmaps.proofs.Slots.{bit_used}
use Rattle.bitmaps.specs.Kept.{word_within, guarded, slot_same, sets_same}

-- a guard goes into each part
guard_and : (g x y : Bool) → (g && (x && y)) ≡ ((g && x) && (g && y))
guard_and true x y = refl
guard_and false x y = refl

guard_or : (g x y : Bool) → (g && (x || y)) ≡ ((g && x) || (g && y))
guard_or true x y = refl
guard_or false x y = refl

guard_less : (g x y : Bool) → (g && (x && not y)) ≡ ((g && x) && not (g && y))
guard_less true x y = refl
guard_less false x y = refl

-- the bits that an operation works out are its result
module _ (ws : List ℕ) (v : Valid ws) where
  abbrev n : ℕ
  n = get_or ws 0 0

  bits_result : (o : Operation) → Operands n (get_or ws 1 0) o → (k : ℕ) → (ltb k (2 ^ n) && bit_at n ws o (k / 64) (k % 64)) ≡ result (means ws) (op_of o) k
  bits_result (Switch i) h k = guarded (ltb k (2 ^ n)) _ _ (λ e.
      let lt = ltb-true k (2 ^ n) e in
      let top = ap (on (k % 64)) (v.top (k / 64) (word_within n k lt)) ∙ on_ones (used n) (k % 64) (bit_used n k lt) in
      let joined : k / 64 * 64 + k % 64 ≡ k = omega arith in
      ap (λ (b : Bool). b && on i (k / 64 * 64 + k % 64)) top ∙ ap (on i) joined)
  bits_result (Join Both a b) h k = guard_and (ltb k (2 ^ n)) _ _ ∙ (λ i. sym (set_means ws a h.0) i k && sym (set_means ws b h.1) i k)
  bits_result (Join Either a b) h k = guard_or (ltb k (2 ^ n)) _ _ ∙ (λ i. sym (set_means ws a h.0) i k || sym (set_means ws b h.1) i k)
  bits_result (Join Less a b) h k = guard_less (ltb k (2 ^ n)) _ _ ∙ (λ i. sym (set_means ws a h.0) i k && not (sym (set_means ws b h.1) i k))

module _ (o : Operation) (ws ws₁ : List ℕ) (v : Valid ws) (len : length ws₁ ≡ length ws) (ok : Operands (get_or ws 0 0) (get_or ws 1 0) o)
    (room : get_or ws 1 0 < slots (length ws) (get_or ws 0 0)) (written : Written (get_or ws 0 0) (get_or ws 1 0) o ws ws₁) where
  abbrev N : ℕ
  N = get_or ws 0 0

  abbrev C : ℕ
  C = get_or ws 1 0

  abbrev ws₂ : List ℕ
  ws₂ = set ws₁ 1 (C + 1)

  other : (i : ℕ) → (i ≡ 1 → ⊥) → get_or ws₂ i 0 ≡ get_or ws₁ i 0
  other i ne = get_or-set_other ws₁ 1 i (C + 1) 0 ne

  later : (i : ℕ) → 2 ≤ i → get_or ws₂ i 0 ≡ get_or ws₁ i 0
  later i h = other i (λ e. omega (arith, h, e))

  n₂ : get_or ws₂ 0 0 ≡ N
  n₂ = other 0 (λ e. omega (arith, e)) ∙ written.before 0 (omega arith)

  c₂ : get_or ws₂ 1 0 ≡ C + 1
  c₂ = get_or-set_same ws₁ 1 (C + 1) 0 (omega (arith, len, v.header))

  l₂ : length ws₂ ≡ length ws
  l₂ = length-set ws₁ 1 (C + 1) ∙ len

  keeps : (j t : ℕ) → j < C → t < width N → get_or ws₂ (start N j + t) 0 ≡ get_or ws (start N j + t) 0
  keeps j t h lt = later (start N j + t) (omega arith) ∙ written.before (start N j + t) (omega (arith, start_before N j C h, lt))

  kept_slot : (j : ℕ) → j < C → slot N ws₂ j ≡ slot N ws j
  kept_slot j h = slot_same N ws ws₂ j j (λ t lt. keeps j t h lt)

  new_slot : slot N ws₂ C ≡ result (means ws) (op_of o)
  new_slot = fun_ext (λ k.
      guarded (ltb k (2 ^ N)) _ _ (λ e.
      let t = word_within N k (ltb-true k (2 ^ N) e) in
      ap (on (k % 64)) (later (start N C + k / 64) (omega arith)) ∙ (written.made (k / 64) t).bits (k % 64) (omega arith))
      ∙ bits_result ws v o ok k)

  unused₂ : (i : ℕ) → 2 ≤ i → i < start N (C + 1) → get_or ws₂ i 0 < 2 ^ used N
  unused₂ i lo hi = ⊎_elim
      (λ (old : i < start N C). subst (λ (x : ℕ). x < 2 ^ used N) (sym (later i lo ∙ written.before i old)) (v.unused i lo old))
      (λ (new : start N C ≤ i).
      let t = i - start N C in
      let e : start N C + t ≡ i = omega (arith, new) in
      let u = (written.made t (omega (arith, hi, new, start_next N C))).unused in
      subst (λ (x : ℕ). x < 2 ^ used N) (ap (λ (j : ℕ). get_or ws₁ j 0) e ∙ sym (later i lo)) u)
      (cases_lt i (start N C))

  pub append_valid : Valid ws₂
  append_valid =
      let w : ValidOf N (C + 1) (length ws) ws₂ = record {
        header = v.header;
        few = v.few;
        floor = omega (arith, v.floor);
        room = omega (arith, room);
        none = λ t lt. keeps 0 t (omega (arith, v.floor)) lt ∙ v.none t lt;
        top = λ t lt. keeps 1 t (omega (arith, v.floor)) lt ∙ v.top t lt;
        unused = unused₂;
        free = λ i lo hi. later i (omega (arith, lo)) ∙ written.after i lo ∙ v.free i (omega (arith, lo, start_next N C)) hi;
      } in
      subst (λ (n : ℕ). ValidOf n (get_or ws₂ 1 0) (length ws₂) ws₂) (sym n₂)
      (subst (λ (c : ℕ). ValidOf N c (length ws₂) ws₂) (sym c₂) (subst (λ (l : ℕ). ValidOf N (C + 1) l ws₂) (sym l₂) w))

  abbrev m₂ : Model
  m₂ = model_of N (C + 1) (length ws) ws₂

  model₂ : means ws₂ ≡ m₂
  model₂ = λ i. model_of (n₂ i) (c₂ i) (l₂ i) ws₂

  before : take (length (means ws).held) m₂.held ≡ (means ws).held
  before =
      ap (λ (i : ℕ). take i m₂.held) (size_means ws)
      ∙ take-map-range_with_len (slot N ws₂) 0 (C + 1) C (omega arith)
      ∙ sets_same (slot N ws₂) (slot N ws) C kept_slot

  appended : Appended (means ws) (means ws₂) 1
  appended =
      subst (λ (m : Model). Appended (means ws) m 1) (sym model₂)
      (record { same = record { n = refl; allowed = refl; floor = refl; capacity = refl }; before = before; len = omega (arith, length-map-range_with_len (slot N ws₂) 0 (C + 1), size_means ws) })

  -- a word once the new slot is taken off again
  word : (i : ℕ) → cut_word N (slots (length ws) N) ws₂ C i ≡ get_or ws i 0
  word i =
      let cap = slots (length ws) N in
      cond_both (eqb i 1) C _ (λ (x : ℕ). x ≡ get_or ws i 0)
      (λ e. sym (ap (λ (j : ℕ). get_or ws j 0) (eqb-true i 1 e)))
      (λ e. cond_both (leb (start N C) i && ltb i (start N cap)) 0 (get_or ws₂ i 0) (λ (x : ℕ). x ≡ get_or ws i 0)
      (λ t. let p = and_parts (leb (start N C) i) (ltb i (start N cap)) t in sym (v.free i (leb-true (start N C) i p.0) (ltb-true i (start N cap) p.1)))
      (λ f. other i (eqb-false i 1 e) ∙ ⊎_elim
      (λ (x : leb (start N C) i ≡ false). written.before i (leb-false (start N C) i x))
      (λ (y : ltb i (start N cap) ≡ false). written.after i (omega (arith, ltb-false i (start N cap) y, starts N (C + 1) cap (omega (arith, room)))))
      (and_cases _ _ f)))

  undo : cut_words ws₂ C ≡ ws
  undo =
      (λ i. map (cut_word (n₂ i) (slots (l₂ i) (n₂ i)) ws₂ C) (range_with_len 0 (l₂ i)))
      ∙ sym (fill_by_all (cut_word N (slots (length ws) N) ws₂ C) ws (length ws) 0 refl (λ k h. sym (word k)))

  pub append_accepted : refusal (means ws) 1 (op_of o) ≡ None → Accepted means cut_words ws ws₂ 1 (op_of o) C
  append_accepted due =
      record {
        due = due;
        grown = record { appended = appended; undo = ap (cut_words ws₂) (size_means ws) ∙ undo };
        within = omega (arith, appended.len, size_means ws);
        set = ap (λ (m : Model). set_at m C) model₂ ∙ get_or-map-range_with_len (slot N ws₂) 0 (C + 1) C C empty (omega arith) (omega arith) ∙ new_slot;
      }

-- the same of the store as a value
pub accepted_of : (s : Bitmaps) (ws' : List ℕ) (v' : Valid ws') (need r : ℕ) (op : Op) → Accepted means cut_words s.words.now ws' need op r
    → Accepted (λ (s : Bitmaps). means s.words.now) rollback s (with_words s ws' v') need op r
accepted_of s ws' v' need r op h =
    let ws = s.words.now in
    let to = length (means ws).held in
    let held : kept (means ws') to ≡ to = omega (arith, h.grown.appended.len, size_means ws, s.valid.floor) in
    record {
      due = h.due;
      grown = record { appended = h.grown.appended; undo = same_words s _ _ _ s.valid (ap (cut_words ws') held ∙ h.grown.undo) };
      within = h.within;
      set = h.set;
    }

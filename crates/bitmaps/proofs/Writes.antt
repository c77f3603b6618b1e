-- Writing the words of a new slot.
use Rattle.std.proofs.Common.{◌≡◌, ℕ, ◌+◌, ◌-◌, ◌*◌, ◌^◌, ◌<◌, ◌≤◌, ◌&&◌, ◌≢◌, List, length, get_or, set, sym, refl, ap, ◌∙◌, subst, arith, get_or-set_other, get_or-set_same, below_more}
use lib.Bits.{bit_and, bit_or, and_le_l}
use Rattle.stores.specs.Sets.{on}
use Rattle.bitmaps.specs.Layout.{width, used, slots, start}
use Rattle.bitmaps.specs.Meaning.{Valid, Held}
use Rattle.bitmaps.specs.Operations.{Operands, connected, bit_at, NewWord, Written}
use Rattle.bitmaps.specs.declared.operation.Operation.{Operation}
use Rattle.stores.specs.declared.connective.Connective.{Connective}
use Rattle.stores.specs.declared.connective.Connective.TheVariants.{Both, Either, Less}
use Rattle.bitmaps.specs.declared.operation.Operation.TheVariants.{Switch, Join}
use Rattle.bitmaps.proofs.Bits.{on_and, on_or, on_not}
use Rattle.bitmaps.specs.Cutting.{starts, start_next, start_before}
use Rattle.bitmaps.proofs.Slots.{last_within}

pub same_operation : {n : ℕ} {ws : List ℕ} {o o' : Operation} {t r : ℕ} → o ≡ o' → NewWord n ws o' t r → NewWord n ws o t r
same_operation {n} {ws} {o} {o'} {t} {r} e h = subst (λ (z : Operation). NewWord n ws z t r) (sym e) h

-- the words that each operation makes of its operands' words x and y
module _ (n : ℕ) (ws : List ℕ) (t x y r : ℕ) where
  pub switch_new : (i : ℕ) → x ≡ get_or ws (start n 1 + t) 0 → x < 2 ^ used n → ((p : ℕ) → p < 64 → on p y ≡ on i (t * 64 + p)) → NewWord n ws (Switch i) t (bit_and x y)
  switch_new i e small bits =
      record {
        bits = λ p h. on_and p x y ∙ (λ k. on p (e k) && bits p h k);
        unused = omega (arith, and_le_l x y, small);
      }

  pub join_new : (how : Connective) (a b : ℕ) → x ≡ get_or ws (start n a + t) 0 → y ≡ get_or ws (start n b + t) 0
      → ((p : ℕ) → p < 64 → on p r ≡ connected how (on p x) (on p y)) → r < 2 ^ used n → NewWord n ws (Join how a b) t r
  join_new how a b e f bits small =
      record {
        bits = λ p h. bits p h ∙ (λ k. connected how (on p (e k)) (on p (f k)));
        unused = small;
      }

-- the bits of the words that are made
pub and_bits : (x y p : ℕ) → p < 64 → on p (bit_and x y) ≡ connected Both (on p x) (on p y)
and_bits x y p h = on_and p x y

pub or_bits : (x y p : ℕ) → p < 64 → on p (bit_or x y) ≡ connected Either (on p x) (on p y)
or_bits x y p h = on_or p x y

pub less_bits : (x y p : ℕ) → y < 2 ^ 64 → p < 64 → on p (bit_and x (18446744073709551615 - y)) ≡ connected Less (on p x) (on p y)
less_bits x y p fits h = on_and p x (18446744073709551615 - y) ∙ (λ k. on p x && on_not 64 p y h fits k)

-- the words up to word m are written
pub record Part (n to : ℕ) (o : Operation) (ws ws' : List ℕ) (m : ℕ) : Type 0 where
  pub made : (t : ℕ) → t < m → NewWord n ws o t (get_or ws' (to + t) 0)
  pub before : (i : ℕ) → i < to → get_or ws' i 0 ≡ get_or ws i 0
  pub after : (i : ℕ) → to + m ≤ i → get_or ws' i 0 ≡ get_or ws i 0

pub part_none : (n to : ℕ) (o : Operation) (ws : List ℕ) → Part n to o ws ws 0
part_none n to o ws = record { made = λ t h. absurd (omega (arith, h)); before = λ i h. refl; after = λ i h. refl }

module _ (o : Operation) (ws ws' : List ℕ) (to : ℕ) (m : ℕ) (v : Valid ws) (len : length ws' ≡ length ws) (e : to ≡ start (get_or ws 0 0) (get_or ws 1 0))
    (ok : Operands (get_or ws 0 0) (get_or ws 1 0) o) (room : get_or ws 1 0 < slots (length ws) (get_or ws 0 0)) (part : Part (get_or ws 0 0) to o ws ws' m) where
  abbrev N : ℕ
  N = get_or ws 0 0

  abbrev C : ℕ
  C = get_or ws 1 0

  count : get_or ws' 1 0 ≡ C
  count = part.before 1 (omega (arith, e))

  pub part_operands : Operands N (get_or ws' 1 0) o
  part_operands = subst (λ (c : ℕ). Operands N c o) (sym count) ok

  pub part_held : Held N ws'
  part_held =
      let below : start N C ≤ length ws = omega (arith, last_within (length ws) N v.header, starts N C (slots (length ws) N) v.room) in
      record {
        floor = omega (arith, count, v.floor);
        within = subst (λ (c : ℕ). start N c ≤ length ws') (sym count) (omega (arith, len, below));
        unused = λ i lo hi.
            let old : i < start N C = subst (λ (c : ℕ). i < start N c) count hi in
            subst (λ (x : ℕ). x < 2 ^ used N) (sym (part.before i (omega (arith, e, old)))) (v.unused i lo old);
      }

  -- what is read of the operands has not changed
  read : (a t : ℕ) → a < C → t < width N → get_or ws' (start N a + t) 0 ≡ get_or ws (start N a + t) 0
  read a t h lt = part.before (start N a + t) (omega (arith, e, lt, start_before N a C h))

  bits_same : (o : Operation) → Operands N C o → (t p : ℕ) → t < width N → bit_at N ws' o t p ≡ bit_at N ws o t p
  bits_same (Switch i) h t p lt = ap (λ (z : ℕ). on p z && on i (t * 64 + p)) (read 1 t (omega (arith, v.floor)) lt)
  bits_same (Join how a b) h t p lt = λ k. connected how (on p (read a t h.0 lt k)) (on p (read b t h.1 lt k))

  pub place_within : m < width N → to + m < length ws'
  place_within lt = omega (arith, e, len, lt, last_within (length ws) N v.header, start_before N C (slots (length ws) N) room)

  pub part_more : (r : ℕ) → m < width N → NewWord N ws' o m r → Part N to o ws (set ws' (to + m) r) (m + 1)
  part_more r lt new =
      let here = get_or-set_same ws' (to + m) r 0 (place_within lt) in
      let moved : NewWord N ws o m r = record { bits = λ p h. new.bits p h ∙ bits_same o ok m p lt; unused = new.unused } in
      record {
        made = below_more (λ (t : ℕ). NewWord N ws o t (get_or (set ws' (to + m) r) (to + t) 0)) m
            (λ t h. let ne : to + t ≢ to + m = omega (arith, h) in subst (NewWord N ws o t) (sym (get_or-set_other ws' (to + m) (to + t) r 0 ne)) (part.made t h))
            (subst (NewWord N ws o m) (sym here) moved);
        before = λ i h. let ne : i ≢ to + m = omega (arith, h) in get_or-set_other ws' (to + m) i r 0 ne ∙ part.before i h;
        after = λ i h. let ne : i ≢ to + m = omega (arith, h) in get_or-set_other ws' (to + m) i r 0 ne ∙ part.after i (omega (arith, h));
      }

  pub part_written : m ≡ width N → Written N C o ws ws'
  part_written all =
      record {
        made = λ t h. subst (λ (s : ℕ). NewWord N ws o t (get_or ws' (s + t) 0)) e (part.made t (omega (arith, h, all)));
        before = λ i h. part.before i (omega (arith, h, e));
        after = λ i h. part.after i (omega (arith, h, e, all, start_next N C));
      }

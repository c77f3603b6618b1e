-- The words of a new store.
use Rattle.std.proofs.Common.{◌≡◌, ℕ, ◌+◌, ◌-◌, ◌*◌, ◌^◌, ◌<◌, ◌≤◌, Bool, true, false, cond, eqb, ltb, ◌≢◌, List, [], ◌∷◌, length, get_or, set, Some, None, Option, sym, refl, ap, ◌∙◌, subst, ⊎_elim, le-div_iff_mul-le, arith, length-set, get_or-set_other, get_or-set_same, pow_pos}
use lib.Pow.{ones_lt}
use Rattle.std.proofs.lemmas.List.FromFn.{length-map-range_with_len, get_or-map-range_with_len, fill_by_all}
use Rattle.std.proofs.lemmas.Bool.{cases_lt, eqb-true, eqb-false, ltb-true, ltb-false, lt-ltb, le-ltb, ne_eqb, cond-true, cond-false, cond_both}
use Rattle.stores.specs.Sets.{Set, everything}
use Rattle.stores.specs.Model.{Model}
use Rattle.stores.specs.declared.fault.StoreFault.TheVariants.{TooSmall, TooManySwitches}
use Rattle.bitmaps.specs.Layout.{width, used, full, slots, start}
use Rattle.bitmaps.specs.Meaning.{model_of, means, ValidOf, Valid}
use Rattle.bitmaps.specs.Making.{due, room, renewed, new_word, new_words}
use Rattle.stores.specs.Making.{new_model, New}
use Rattle.bitmaps.specs.Cutting.{starts, start_before}
use Rattle.bitmaps.specs.declared.Bitmaps.{Bitmaps}
use Rattle.bitmaps.proofs.Slots.{last_within, slot_none, slot_top}

-- two slots take more words than the header alone
pub header_fits : (len n : ℕ) → 2 ≤ slots len n → 2 ≤ len
header_fits len n two =
    let most : 2 * width n ≤ len - 2 = (le-div_iff_mul-le {k = width n} {x = 2} {y = len - 2} (pow_pos (n - 6))).0 (omega (arith, two)) in
    omega (arith, most, pow_pos (n - 6))

pub all_within : (len n : ℕ) → 2 ≤ slots len n → start n (slots len n) ≤ len
all_within len n two = last_within len n (header_fits len n two)

-- the refusal due

pub none_due : (ws : List ℕ) (n : ℕ) → n ≤ 10 → 2 ≤ room ws n → due ws n ≡ None
none_due ws n few two = cond-false (ltb 10 n) _ _ (le-ltb 10 n few) ∙ cond-false (ltb (room ws n) 2) _ _ (le-ltb (room ws n) 2 two)

cond_none : {A : Type 0} (b : Bool) (f : A) (x : Option A) → cond b (Some f) x ≡ None → (b ≡ false) × (x ≡ None)
cond_none true f x e = absurd (let z : ◌≡◌ {A = ℕ} 0 1 = cc in omega arith)
cond_none false f x e = (refl, e)

pub fine_due : (ws : List ℕ) (n : ℕ) → due ws n ≡ None → (n ≤ 10) × (2 ≤ room ws n)
fine_due ws n e =
    let p = cond_none (ltb 10 n) TooManySwitches _ e in
    (ltb-false 10 n p.0, ltb-false (room ws n) 2 (cond_none (ltb (room ws n) 2) TooSmall None p.1).0)

-- what making writes: all slots zero, then the full one, then the header
module _ (n : ℕ) (ws ws₁ ws₂ : List ℕ) (two : 2 ≤ slots (length ws) n) (l₁ : length ws₁ ≡ length ws) (l₂ : length ws₂ ≡ length ws₁)
    (zeros : (i : ℕ) → i < start n (slots (length ws) n) → get_or ws₁ i 0 ≡ 0)
    (rest : (i : ℕ) → start n (slots (length ws) n) ≤ i → get_or ws₁ i 0 ≡ get_or ws i 0)
    (made : (i : ℕ) → start n 1 ≤ i → i < start n 2 → get_or ws₂ i 0 ≡ full n)
    (before : (i : ℕ) → i < start n 1 → get_or ws₂ i 0 ≡ get_or ws₁ i 0)
    (after : (i : ℕ) → start n 2 ≤ i → get_or ws₂ i 0 ≡ get_or ws₁ i 0) where
  abbrev cap : ℕ
  cap = slots (length ws) n

  abbrev ws₃ : List ℕ
  ws₃ = set (set ws₂ 0 n) 1 2

  first : get_or ws₃ 0 0 ≡ n
  first =
      let ne : ◌≢◌ {A = ℕ} 0 1 = omega arith in
      get_or-set_other (set ws₂ 0 n) 1 0 2 0 ne ∙ get_or-set_same ws₂ 0 n 0 (omega (arith, l₁, l₂, header_fits (length ws) n two))

  second : get_or ws₃ 1 0 ≡ 2
  second = get_or-set_same (set ws₂ 0 n) 1 2 0 (omega (arith, l₁, l₂, length-set ws₂ 0 n, header_fits (length ws) n two))

  later : (i : ℕ) → (i ≡ 0 → ⊥) → (i ≡ 1 → ⊥) → get_or ws₃ i 0 ≡ get_or ws₂ i 0
  later i a b = get_or-set_other (set ws₂ 0 n) 1 i 2 0 b ∙ get_or-set_other ws₂ 0 i n 0 a

  slots_word : (i : ℕ) → get_or ws₂ i 0 ≡ cond (ltb i (start n 1)) 0 (cond (ltb i (start n 2)) (full n) (cond (ltb i (start n cap)) 0 (get_or ws i 0)))
  slots_word i =
      cond_both (ltb i (start n 1)) 0 _ (λ (x : ℕ). get_or ws₂ i 0 ≡ x)
      (λ p. let lt = ltb-true i (start n 1) p in before i lt ∙ zeros i (omega (arith, lt, starts n 1 cap (omega (arith, two)))))
      (λ p. cond_both (ltb i (start n 2)) (full n) _ (λ (x : ℕ). get_or ws₂ i 0 ≡ x)
      (λ q. made i (ltb-false i (start n 1) p) (ltb-true i (start n 2) q))
      (λ q. cond_both (ltb i (start n cap)) 0 (get_or ws i 0) (λ (x : ℕ). get_or ws₂ i 0 ≡ x)
      (λ r. after i (ltb-false i (start n 2) q) ∙ zeros i (ltb-true i (start n cap) r))
      (λ r. after i (ltb-false i (start n 2) q) ∙ rest i (ltb-false i (start n cap) r))))

  word : (i : ℕ) → get_or ws₃ i 0 ≡ new_word n (length ws) ws i
  word i =
      cond_both (eqb i 0) n _ (λ (x : ℕ). get_or ws₃ i 0 ≡ x)
      (λ a. ap (λ (j : ℕ). get_or ws₃ j 0) (eqb-true i 0 a) ∙ first)
      (λ a. cond_both (eqb i 1) 2 _ (λ (x : ℕ). get_or ws₃ i 0 ≡ x)
      (λ b. ap (λ (j : ℕ). get_or ws₃ j 0) (eqb-true i 1 b) ∙ second)
      (λ b. later i (eqb-false i 0 a) (eqb-false i 1 b) ∙ slots_word i))

  pub written_new : ws₃ ≡ new_words n ws
  written_new =
      fill_by_all (new_word n (length ws) ws) ws₃ (length ws) 0 (length-set (set ws₂ 0 n) 1 2 ∙ length-set ws₂ 0 n ∙ l₂ ∙ l₁) (λ i h. word i)

-- the new store is in order, and means what it should
module _ (n : ℕ) (ws : List ℕ) (few : n ≤ 10) (two : 2 ≤ slots (length ws) n) where
  abbrev top : ℕ
  top = slots (length ws) n

  abbrev new : List ℕ
  new = new_words n ws

  l : length new ≡ length ws
  l = length-map-range_with_len (new_word n (length ws) ws) 0 (length ws)

  at : (i : ℕ) → i < start n top → get_or new i 0 ≡ new_word n (length ws) ws i
  at i h = get_or-map-range_with_len (new_word n (length ws) ws) 0 (length ws) i i 0 (omega (arith, h, all_within (length ws) n two)) (omega arith)

  n' : get_or new 0 0 ≡ n
  n' = at 0 (omega arith)

  c' : get_or new 1 0 ≡ 2
  c' = at 1 (omega arith)

  -- a word of a slot
  behind : (i : ℕ) → 2 ≤ i → i < start n top → get_or new i 0 ≡ cond (ltb i (start n 1)) 0 (cond (ltb i (start n 2)) (full n) (cond (ltb i (start n top)) 0 (get_or ws i 0)))
  behind i lo hi =
      at i hi
      ∙ cond-false (eqb i 0) n _ (ne_eqb i 0 (λ e. omega (arith, e, lo)))
      ∙ cond-false (eqb i 1) 2 _ (ne_eqb i 1 (λ e. omega (arith, e, lo)))

  zeros : (i : ℕ) → 2 ≤ i → i < start n 1 → get_or new i 0 ≡ 0
  zeros i lo hi = behind i lo (omega (arith, hi, starts n 1 top (omega (arith, two)))) ∙ cond-true (ltb i (start n 1)) 0 _ (lt-ltb i (start n 1) hi)

  fulls : (i : ℕ) → start n 1 ≤ i → i < start n 2 → get_or new i 0 ≡ full n
  fulls i lo hi =
      behind i (omega (arith, lo)) (omega (arith, hi, starts n 2 top two))
      ∙ cond-false (ltb i (start n 1)) 0 _ (le-ltb i (start n 1) lo)
      ∙ cond-true (ltb i (start n 2)) (full n) _ (lt-ltb i (start n 2) hi)

  frees : (i : ℕ) → start n 2 ≤ i → i < start n top → get_or new i 0 ≡ 0
  frees i lo hi =
      behind i (omega (arith, lo)) hi
      ∙ cond-false (ltb i (start n 1)) 0 _ (le-ltb i (start n 1) (omega (arith, lo, starts n 1 2 (omega arith))))
      ∙ cond-false (ltb i (start n 2)) (full n) _ (le-ltb i (start n 2) lo)
      ∙ cond-true (ltb i (start n top)) 0 _ (lt-ltb i (start n top) hi)

  none_words : (t : ℕ) → t < width n → get_or new (start n 0 + t) 0 ≡ 0
  none_words t h = zeros (start n 0 + t) (omega arith) (omega (arith, h, start_before n 0 1 (omega arith)))

  top_words : (t : ℕ) → t < width n → get_or new (start n 1 + t) 0 ≡ full n
  top_words t h = fulls (start n 1 + t) (omega arith) (omega (arith, h, start_before n 1 2 (omega arith)))

  pub new_valid : Valid new
  new_valid =
      let w : ValidOf n 2 (length ws) new = record {
        header = header_fits (length ws) n two;
        few = few;
        floor = omega arith;
        room = two;
        none = none_words;
        top = top_words;
        unused = λ i lo hi. ⊎_elim
            (λ (p : i < start n 1). subst (λ (x : ℕ). x < 2 ^ used n) (sym (zeros i lo p)) (pow_pos (used n)))
            (λ (p : start n 1 ≤ i). subst (λ (x : ℕ). x < 2 ^ used n) (sym (fulls i p hi)) (ones_lt (used n)))
            (cases_lt i (start n 1));
        free = frees;
      } in
      subst (λ (x : ℕ). ValidOf x (get_or new 1 0) (length new) new) (sym n')
      (subst (λ (c : ℕ). ValidOf n c (length new) new) (sym c') (subst (λ (k : ℕ). ValidOf n 2 k new) (sym l) w))

  abbrev holding : List Set → Model
  holding sets = record { n = n; allowed = everything n; held = sets; floor = 2; capacity = top }

  pub new_model_is : means new ≡ new_model n top
  new_model_is =
      (λ i. model_of (n' i) (c' i) (l i) new)
      ∙ (λ i. holding (slot_none n new 0 none_words i ∷ slot_top n new 1 top_words i ∷ []))

pub renewed_valid : (ws ws' : List ℕ) (n : ℕ) → due ws n ≡ None → renewed ws n ws' → Valid ws'
renewed_valid ws ws' n none e = let fine = fine_due ws n none in subst Valid (sym e) (new_valid n ws fine.0 fine.1)

pub made_new : (ws : List ℕ) (n : ℕ) (s : Bitmaps) → due ws n ≡ None → renewed ws n s.words.now
    → New (λ (s : Bitmaps). means s.words.now) (λ (s : Bitmaps). s.words.now) due room renewed ws n s
made_new ws n s none e = let fine = fine_due ws n none in record { fine = none; means = ap means e ∙ new_model_is n ws fine.0 fine.1; lies = e }

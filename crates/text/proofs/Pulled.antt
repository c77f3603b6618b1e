-- One token pulled from a line. Assumes nothing.
--   Pulled           what `next` promises of the token t that it pulls at offset `from`, where `to` is the next offset
--   pulled           the token that begins behind the gap is pulled so
use Rattle.std.proofs.Common.{◌≡◌, ℕ, zero, suc, ◌+◌, ◌-◌, ◌<◌, ◌≤◌, Bool, eqb, ◌⊎◌, [], ◌∷◌, length, take, drop, Some, None, Option, sym, refl, ap, ◌∙◌, subst, inl, inr, arith, length-drop}
use Rattle.std.proofs.lemmas.List.{drop-drop, drop_all, length-take-le}
use Rattle.std.proofs.lemmas.Bool.{cases_lt, cond-false, ne_eqb}
use Rattle.text.specs.declared.scanner.Part.{Part}
use Rattle.text.specs.declared.scanner.Token.{Token}
use Rattle.text.specs.Tokens.{Bytes, Placed, gap, between, front, begun, tokens_at}
use Rattle.text.specs.Pulling.{part_of, bytes, place, placed, begins, Pulls, place_or}
use Rattle.text.proofs.Fronts.{front_within}
use Rattle.text.proofs.Fuel.{all, all_begun}

pub record Pulled (c : Bool) (line : Bytes) (from to : ℕ) (t : Token) : Type 0 where
  pub token : Pulls (placed t) (tokens_at c line from) (tokens_at c line to)
  pub at : place t ≡ place_or (suc (length line)) (tokens_at c line from)
  pub part : bytes t ≡ take (length (bytes t)) (drop (place t - 1) line)
  pub extent : bytes t ≡ take (front (drop (place t - 1) line)).1 (drop (place t - 1) line)

take_self : (n : ℕ) (s : Bytes) → take n s ≡ take (length (take n s)) s
take_self zero s = refl
take_self (suc n) [] = refl
take_self (suc n) (x ∷ s) = ap (λ (z : Bytes). x ∷ z) (take_self n s)

-- a rest begins as many bytes from the line's end as it is long
drop_start : (line : Bytes) (n : ℕ) → drop (length line - length (drop n line)) line ≡ drop n line
drop_start line n = go (cases_lt n (length line))
  where
    go : (n < length line) ⊎ (length line ≤ n) → drop (length line - length (drop n line)) line ≡ drop n line
    go (inl h) = let e : length line - length (drop n line) ≡ n = omega (arith, length-drop n line) in ap (λ (k : ℕ). drop k line) e
    go (inr h) = drop_all _ line (omega (arith, length-drop n line)) ∙ sym (drop_all n line h)

begins_some : (at x : ℕ) (r : Bytes) → begins at (x ∷ r) ≡ Some ((front (x ∷ r)).0, at)
begins_some at x r = cond-false (eqb (length (x ∷ r)) 0) None (Some ((front (x ∷ r)).0, at)) (ne_eqb (length (x ∷ r)) 0 (λ e. omega arith))

module _ (c : Bool) (line : Bytes) (from start to : ℕ) where
  -- the tokens at `from` are the token that begins r, and those at `to`; r may be empty
  ahead : (r : Bytes) (n : ℕ) → r ≡ drop (gap c between (drop from line)) (drop from line) → start ≡ length line - length r
      → n ≡ length (take (front r).1 r) → to ≡ start + n
      → Pulls (begins (start + 1) r) (tokens_at c line from) (tokens_at c line to) × (start + 1 ≡ place_or (suc (length line)) (tokens_at c line from))
  ahead [] n e a m b =
      let none : tokens_at c line from ≡ [] = all_begun c (suc from) (drop from line) ∙ ap (λ (q : Bytes). begun (all c) (suc from + gap c between (drop from line)) q) (sym e) in
      let over : tokens_at c line to ≡ [] = ap (λ (q : Bytes). all c (suc to) q) (drop_all to line (omega arith)) in
      ((none, over), omega arith ∙ ap (place_or (suc (length line))) (sym none))
  ahead (x ∷ r) n e a m b =
      let g = gap c between (drop from line) in
      let k = (front (x ∷ r)).1 in
      let f : x ∷ r ≡ drop (from + g) line = e ∙ drop-drop g from line in
      let long : n ≡ k = m ∙ length-take-le k (x ∷ r) (front_within x r) in
      let at : suc from + g ≡ start + 1 = omega (arith, ap length f, length-drop (from + g) line) in
      let next : suc from + g + k ≡ suc to = omega arith in
      let rest : drop k (x ∷ r) ≡ drop to line = ap (drop k) f ∙ drop-drop k (from + g) line ∙ ap (λ (i : ℕ). drop i line) (omega arith) in
      let some : tokens_at c line from ≡ ((front (x ∷ r)).0, start + 1) ∷ tokens_at c line to =
      all_begun c (suc from) (drop from line) ∙ ap (λ (q : Bytes). begun (all c) (suc from + g) q) (sym e)
      ∙ (λ i. ((front (x ∷ r)).0, at i) ∷ all c (next i) (rest i)) in (
        subst (λ (o : Option Placed). Pulls o (tokens_at c line from) (tokens_at c line to)) (sym (begins_some (start + 1) x r)) some,
        ap (place_or (suc (length line))) (sym some),
      )

  pub pulled : (r : Bytes) (t : Token) (p : Part) → r ≡ drop (gap c between (drop from line)) (drop from line) → start ≡ length line - length r → p ≡ part_of t
      → to ≡ start + length p.text.now → placed t ≡ begins (start + 1) r → bytes t ≡ take (front r).1 r → place t ≡ start + 1 → Pulled c line from to t
  pulled r t p e a l b k w j =
      let s = drop from line in
      let g = gap c between s in
      let f : r ≡ drop (from + g) line = e ∙ drop-drop g from line in
      let z : place t - 1 ≡ length line - length r = omega arith in
      let here : drop (place t - 1) line ≡ r =
      ap (λ (i : ℕ). drop i line) z ∙ ap (λ (q : Bytes). drop (length line - length q) line) f ∙ drop_start line (from + g) ∙ sym f in
      let q = ahead r (length p.text.now) e a (ap (λ (z : Part). length z.text.now) l ∙ ap length w) b in
      record {
        token = subst (λ (o : Option Placed). Pulls o (tokens_at c line from) (tokens_at c line to)) (sym k) q.0;
        at = j ∙ q.1;
        part = w ∙ take_self (front r).1 r ∙ (λ i. take (length (sym w i)) (sym here i));
        extent = w ∙ ap (λ (q : Bytes). take (front q).1 q) (sym here);
      }

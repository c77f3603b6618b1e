-- What an accepted operation leaves, and that a refused one leaves every word as it was.
use Rattle.std.proofs.Common.{◌≡◌, ℕ, zero, suc, ◌+◌, ◌-◌, ◌*◌, ◌/◌, ◌%◌, ◌<◌, ◌≤◌, min, ◌≢◌, List, length, get_or, sym, ap, ◌∙◌, subst, inl, inr, ⊎_elim, arith}
use Rattle.std.proofs.lemmas.List.{ext_get_or}
use Rattle.std.proofs.lemmas.Bool.{cases_lt, cases_eq}
use Rattle.cells.specs.Cells.{Cell, Grows}
use Rattle.cells.specs.Words.{switches, count, cell_at, cells_of, capacity, Lies, WellFormed, Stepped, OutOfRoom, Cut, Outside, Valid, Swept, Accepted}
use Rattle.cells.proofs.Chained.{length_cells}
use Rattle.cells.proofs.Memory.{outside_cells, outside_formed}

-- what the cells are decides all words but the working words and those past the cells
pub same_words : (n : ℕ) (cs : List Cell) (ws ws' : List ℕ) → Lies n cs ws → Lies n cs ws' → length ws' ≡ length ws
    → ((i : ℕ) → 66 ≤ i → i < 1090 → get_or ws' i 0 ≡ get_or ws i 0)
    → ((i : ℕ) → 1090 + 4 * length cs ≤ i → get_or ws' i 0 ≡ get_or ws i 0) → ws' ≡ ws
same_words n cs ws ws' l l' len work past = ext_get_or 0 ws' ws len (λ i h. at_place i)
  where
    cell_word : (c j : ℕ) → c < length cs → j < 4 → get_or ws' (1090 + 4 * c + j) 0 ≡ get_or ws (1090 + 4 * c + j) 0
    cell_word c j h b =
        let e : cell_at ws' c ≡ cell_at ws c = l'.cells_are c h ∙ sym (l.cells_are c h) in
        let Q : ℕ → Type 0 = λ k. get_or ws' k 0 ≡ get_or ws k 0 in
        ⊎_elim (λ (z : 1090 + 4 * c + j ≡ 1090 + 4 * c). subst Q (sym z) (ap (λ (x : Cell). x.0) e))
        (λ (a₀ : 1090 + 4 * c + j ≢ 1090 + 4 * c).
        ⊎_elim (λ (z : 1090 + 4 * c + j ≡ 1090 + 4 * c + 1). subst Q (sym z) (ap (λ (x : Cell). x.1) e))
        (λ (a₁ : 1090 + 4 * c + j ≢ 1090 + 4 * c + 1).
        ⊎_elim (λ (z : 1090 + 4 * c + j ≡ 1090 + 4 * c + 2). subst Q (sym z) (ap (λ (x : Cell). x.2) e))
        (λ (a₂ : 1090 + 4 * c + j ≢ 1090 + 4 * c + 2).
        let z : 1090 + 4 * c + 3 ≡ 1090 + 4 * c + j = omega arith in
        subst Q z (l'.nexts c h ∙ sym (l.nexts c h)))
        (cases_eq (1090 + 4 * c + j) (1090 + 4 * c + 2)))
        (cases_eq (1090 + 4 * c + j) (1090 + 4 * c + 1)))
        (cases_eq (1090 + 4 * c + j) (1090 + 4 * c))

    head_word : (i : ℕ) → 2 ≤ i → i < 66 → get_or ws' i 0 ≡ get_or ws i 0
    head_word i a b =
        let e : 2 + (i - 2) ≡ i = omega arith in
        subst (λ (k : ℕ). get_or ws' k 0 ≡ get_or ws k 0) e (l'.heads (i - 2) (omega arith) ∙ sym (l.heads (i - 2) (omega arith)))

    at_place : (i : ℕ) → get_or ws' i 0 ≡ get_or ws i 0
    at_place zero = l'.switches_are ∙ sym l.switches_are
    at_place (suc zero) = l'.count_is ∙ sym l.count_is
    at_place (suc (suc m)) =
        let i : ℕ = suc (suc m) in
        ⊎_elim (λ (a : i < 66). head_word i (omega arith) a)
        (λ (a : 66 ≤ i).
        ⊎_elim (λ (b : i < 1090). work i a b)
        (λ (b : 1090 ≤ i).
        ⊎_elim
        (λ (d : i < 1090 + 4 * length cs).
        let c : ℕ = (i - 1090) / 4 in
        let j : ℕ = (i - 1090) % 4 in
        let e : 1090 + 4 * c + j ≡ i = omega arith in
        subst (λ (k : ℕ). get_or ws' k 0 ≡ get_or ws k 0) e (cell_word c j (omega arith) (omega arith)))
        (λ (d : 1090 + 4 * length cs ≤ i). past i d)
        (cases_lt i (1090 + 4 * length cs)))
        (cases_lt i 1090))
        (cases_lt i 66)

-- a prefix of the same length is the list
grows_same : (cs ds : List Cell) → Grows cs ds → length ds ≡ length cs → ds ≡ cs
grows_same cs ds g e = ext_get_or (0, 0, 0) ds cs e (λ i h. g.kept i (omega arith))

capacity_same : (ws ws' : List ℕ) → length ws' ≡ length ws → capacity ws' ≡ capacity ws
capacity_same ws ws' e = ap (λ (n : ℕ). min 65535 ((n - 1090) / 4)) e

-- the working words are swept after an accepted operation
pub accepted : (ws ws₁ ws₂ : List ℕ) (p : List Cell × ℕ) (r : ℕ) → Valid ws → length ws₁ ≡ length ws → Stepped ws ws₁ p r → Swept ws₁ ws₂
    → Accepted ws ws₂ p r
accepted ws ws₁ ws₂ p r s len x w =
    let o : Outside ws₁ ws₂ = w.outside in
    let c : cells_of ws₂ ≡ cells_of ws₁ = outside_cells ws₁ ws₂ o in
    let m : count ws₂ ≡ count ws₁ = o.same_there 1 (inl (omega arith)) in
    let cap : capacity ws₂ ≡ capacity ws = capacity_same ws₁ ws₂ o.length_same ∙ capacity_same ws ws₁ len in
    let few : count ws₁ ≤ capacity ws = omega (arith, x.formed.lies.few, x.formed.lies.room, x.formed.lies.count_is) in
    let more : count ws ≤ count ws₁ = omega (arith, x.grows.longer, length_cells ws, length_cells ws₁) in
    record {
      store = record {
        formed = outside_formed ws₁ ws₂ o x.formed;
        idle = w.idle;
        free = λ i lo hi. o.same_there i (inr (omega arith)) ∙ x.beyond i (omega arith) ∙ s.free i (omega arith) (omega arith);
      };
      answers = ap (λ (y : List Cell). (y, r)) c ∙ x.answers;
      grows = subst (Grows (cells_of ws)) (sym c) x.grows;
      switches_same = o.same_there 0 (inl (omega arith)) ∙ x.switches_same;
      beyond = λ i h. o.same_there i (inr (omega arith)) ∙ x.beyond i (omega arith);
    }

-- a refused operation leaves all words as they were
pub restored : (ws ws₁ ws₂ ws₃ : List ℕ) (p : List Cell × ℕ) → Valid ws → length ws₁ ≡ length ws → length ws₂ ≡ length ws₁
    → OutOfRoom ws ws₁ p → Cut ws₁ ws₂ (count ws) → Swept ws₂ ws₃ → ws₃ ≡ ws
restored ws ws₁ ws₂ ws₃ p s len len' x y w =
    let o : Outside ws₂ ws₃ = w.outside in
    let c₃ : cells_of ws₃ ≡ cells_of ws₂ = outside_cells ws₂ ws₃ o in
    let k₀ = length_cells ws in
    let k₁ = length_cells ws₁ in
    let k₂ = length_cells ws₂ in
    let g₁ : Grows (cells_of ws) (cells_of ws₁) = x.grows in
    let g₂ : Grows (cells_of ws₂) (cells_of ws₁) = y.fewer in
    let m : count ws₂ ≡ count ws = y.count_is in
    let g : Grows (cells_of ws) (cells_of ws₂) =
    record { longer = omega arith; kept = λ j h. sym (g₂.kept j (omega arith)) ∙ g₁.kept j h } in
    let c₂ : cells_of ws₂ ≡ cells_of ws = grows_same (cells_of ws) (cells_of ws₂) g (omega arith) in
    let c : cells_of ws₃ ≡ cells_of ws = c₃ ∙ c₂ in
    let n : switches ws₃ ≡ switches ws = o.same_there 0 (inl (omega arith)) ∙ y.switches_same ∙ x.switches_same in
    let s₃ : WellFormed ws₃ = outside_formed ws₂ ws₃ o y.formed in
    let l₃ : Lies (switches ws) (cells_of ws) ws₃ =
    subst (λ (cs : List Cell). Lies (switches ws) cs ws₃) c (subst (λ (q : ℕ). Lies q (cells_of ws₃) ws₃) n s₃.lies) in
    let few : count ws₁ ≤ capacity ws = omega (arith, x.formed.lies.few, x.formed.lies.room, x.formed.lies.count_is) in
    let lo = g₁.longer in
    same_words (switches ws) (cells_of ws) ws ws₃ s.formed.lies l₃ (o.length_same ∙ len' ∙ len)
    (λ i a b. w.idle i a b ∙ sym (s.idle i a b))
    (λ i h. o.same_there i (inr (omega arith)) ∙
    ⊎_elim
    (λ (a : i < 1090 + 4 * count ws₁). y.cleared i (omega arith) a ∙ sym (s.free i (omega arith) (omega arith)))
    (λ (a : 1090 + 4 * count ws₁ ≤ i). y.beyond i a ∙ x.beyond i a)
    (cases_lt i (1090 + 4 * count ws₁)))

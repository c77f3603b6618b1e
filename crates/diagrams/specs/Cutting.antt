-- What words in order mean, and that they stay in order when cells are taken off. Assumes nothing.
--   size_means         as many sets are held as the words say
--   set_means          the set held under a number is the one of its cell
--   set_inside         below 2^n it has what the cell means
--   set_outside        held sets have no configuration of 2^n or above
--   count_fits         the cells fit the words
--   means_consistent   words in order mean a consistent store
--   lacking_bound      the need of every operation is within the bound
--   cut_words ws k     the words as a release to k leaves them
--   valid_kept         they are then in order
--   grown              further cells are further sets
--   kept_cuts          a release leaves what a release should
use Rattle.std.specs.Prelude.{◌≡◌, ℕ, ◌-◌, ◌/◌, ◌^◌, ◌<◌, ◌≤◌, min, Bool, true, false, ◌&&◌, List, map, length, take, nat_lt, refl}
use Rattle.std.specs.List.{range_with_len}
use Rattle.std.proofs.Common.{sym, ap, ◌∙◌, subst, ⊎_elim, arith, pow_pos}
use Rattle.std.proofs.lemmas.List.FromFn.{length-map-range_with_len, get_or-map-range_with_len, take-map-range_with_len, fill_by_all}
use Rattle.std.proofs.lemmas.List.{get_or_past}
use Rattle.std.proofs.lemmas.Bool.{cases_lt, ltb-true, lt-ltb, le-ltb, and_left, true≢false}
use Rattle.stores.specs.Sets.{Set, empty}
use Rattle.stores.specs.Model.{Model, Appended, Consistent, CutTo, set_at, kept}
use Rattle.stores.specs.Outcome.{Op, result}
use Rattle.cells.specs.Cells.{Cell, Grows, mean}
use Rattle.cells.specs.Words.{switches, count, cells_of, capacity, Valid, Cut}
use Rattle.cells.specs.Rolling.{rolled}
use Rattle.cells.proofs.Chained.{length_cells}
use Rattle.cells.proofs.Need.{needed}
use Rattle.cells.proofs.Grow.{walk_kept}
use Rattle.cells.proofs.Popped.{cut_down, cut_valid}
use Rattle.cells.proofs.Rolling.{valid_rolled, rolled_cut}
use Rattle.diagrams.specs.Meaning.{cell_set, model_of, means, lacking}

abbrev pub cut_words : List ℕ → ℕ → List ℕ
cut_words ws k = rolled ws (kept (means ws) k)

module _ (ws : List ℕ) where
  abbrev N : ℕ
  N = switches ws

  abbrev cs : List Cell
  cs = cells_of ws

  pub size_means : length (means ws).held ≡ count ws
  size_means = length-map-range_with_len (cell_set N cs) 0 (length cs) ∙ length_cells ws

  pub set_means : (a : ℕ) → a < count ws → set_at (means ws) a ≡ cell_set N cs a
  set_means a h = get_or-map-range_with_len (cell_set N cs) 0 (length cs) a a empty (omega (arith, h, length_cells ws)) (omega arith)

  pub set_inside : (a k : ℕ) → a < count ws → k < 2 ^ N → set_at (means ws) a k ≡ mean cs a k
  set_inside a k h l = ap (λ (x : Set). x k) (set_means a h) ∙ ap (λ (b : Bool). b && mean cs a k) (lt-ltb k (2 ^ N) l)

  pub set_outside : (a k : ℕ) → 2 ^ N ≤ k → set_at (means ws) a k ≡ false
  set_outside a k l = ⊎_elim
      (λ (lt : a < count ws). ap (λ (x : Set). x k) (set_means a lt) ∙ and_left (nat_lt k (2 ^ N)) (mean cs a k) (le-ltb k (2 ^ N) l))
      (λ (le : count ws ≤ a). ap (λ (x : Set). x k) (get_or_past (means ws).held a empty (omega (arith, size_means, le))))
      (cases_lt a (count ws))

  inside : (a k : ℕ) → set_at (means ws) a k ≡ true → k < 2 ^ N
  inside a k h = ⊎_elim
      (λ (lt : k < 2 ^ N). lt)
      (λ (le : 2 ^ N ≤ k). absurd (true≢false (sym h ∙ set_outside a k le)))
      (cases_lt k (2 ^ N))

  pub count_fits : Valid ws → count ws ≤ capacity ws
  count_fits v = omega (arith, v.formed.lies.few, v.formed.lies.room, v.formed.lies.count_is)

  pub means_consistent : Valid ws → Consistent (means ws)
  means_consistent v =
      record {
        few = v.formed.reduced.admitted;
        within = λ k h. ltb-true k (2 ^ N) h;
        some = λ h. true≢false (sym (lt-ltb 0 (2 ^ N) (pow_pos N)) ∙ h 0);
        inside = inside;
        floor = omega (arith, size_means, length_cells ws, v.formed.reduced.two);
        room = omega (arith, size_means, count_fits v);
      }

  pub lacking_bound : Valid ws → (op : Op) → lacking ws op ≤ 2 ^ N
  lacking_bound v op = omega (arith, (needed N cs v.formed.reduced (result (means ws) op)).1)

  pub valid_kept : Valid ws → (k : ℕ) → Valid (cut_words ws k)
  valid_kept v k =
      valid_rolled ws v (kept (means ws) k) (omega arith) (omega (arith, size_means, length_cells ws, v.formed.reduced.two))

-- lists of the same sets
sets_same : (f g : ℕ → Set) (c : ℕ) → ((j : ℕ) → j < c → f j ≡ g j) → map f (range_with_len 0 c) ≡ map g (range_with_len 0 c)
sets_same f g c h =
    fill_by_all g (map f (range_with_len 0 c)) c empty (length-map-range_with_len f 0 c)
    (λ j lt. get_or-map-range_with_len f 0 c j j empty lt (omega arith) ∙ h j lt)

pub capacity_same : (ws ws' : List ℕ) → length ws' ≡ length ws → capacity ws' ≡ capacity ws
capacity_same ws ws' e = ap (λ (n : ℕ). min 65535 ((n - 1090) / 4)) e

-- further cells are further sets
module _ (ws ws' : List ℕ) (v : Valid ws) (len : length ws' ≡ length ws) (n : switches ws' ≡ switches ws) (g : Grows (cells_of ws) (cells_of ws')) where
  pub model_grown : means ws' ≡ model_of (switches ws) (cells_of ws') (capacity ws)
  model_grown = λ i. model_of (n i) (cells_of ws') (capacity_same ws ws' len i)

  pub grown : Appended (means ws) (means ws') (count ws' - count ws)
  grown =
      subst (λ (m : Model). Appended (means ws) m (count ws' - count ws)) (sym model_grown)
      (record {
        same = record { n = refl; allowed = refl; floor = refl; capacity = refl };
        before =
            ap (λ (j : ℕ). take j (map (cell_set (switches ws) (cells_of ws')) (range_with_len 0 (length (cells_of ws'))))) (length-map-range_with_len (cell_set (switches ws) (cells_of ws)) 0 (length (cells_of ws)))
            ∙ take-map-range_with_len (cell_set (switches ws) (cells_of ws')) 0 (length (cells_of ws')) (length (cells_of ws)) g.longer
            ∙ sets_same (cell_set (switches ws) (cells_of ws')) (cell_set (switches ws) (cells_of ws)) (length (cells_of ws)) (λ c h. λ i k. nat_lt k (2 ^ (switches ws)) && walk_kept (switches ws) (cells_of ws) (cells_of ws') v.formed.reduced g c c k h i);
        len = omega (arith, length-map-range_with_len (cell_set (switches ws) (cells_of ws')) 0 (length (cells_of ws')), length-map-range_with_len (cell_set (switches ws) (cells_of ws)) 0 (length (cells_of ws)), length_cells ws, length_cells ws', g.longer);
      })

-- a release leaves what a release should
pub kept_cuts : (ws : List ℕ) → Valid ws → (k : ℕ) → CutTo (means ws) (means (cut_words ws k)) k
kept_cuts ws v k =
    let m = kept (means ws) k in
    let two : 2 ≤ count ws = omega (arith, length_cells ws, v.formed.reduced.two) in
    let down = cut_down ws v.formed (count ws - m) (omega (arith, size_means ws, two)) in
    let ws' : List ℕ = down.0 in
    let back : count ws - (count ws - m) ≡ m = omega (arith, size_means ws, two) in
    let cut : Cut ws ws' m = subst (Cut ws ws') back down.2 in
    let v' : Valid ws' = cut_valid ws ws' m v down.1 cut in
    let g : Appended (means ws') (means ws) (count ws - count ws') = grown ws' ws v' (sym down.1) (sym cut.switches_same) cut.fewer in
    subst (λ (w : List ℕ). CutTo (means ws) (means w) k) (sym (rolled_cut ws ws' m v down.1 cut))
    (record {
      same = record { n = sym g.same.n; allowed = sym g.same.allowed; floor = refl; capacity = sym g.same.capacity };
      held = sym (ap (λ (j : ℕ). take j (means ws).held) (sym (size_means ws' ∙ cut.count_is)) ∙ g.before);
    })

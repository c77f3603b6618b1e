-- Reduced ordered binary decision diagrams, as lists of cells, and the sets that their cells mean. Assumes nothing.
--   Cell                    a switch, the low side and the high side
--   at cs c                 cell c, the cells standing by number
--   on i k                  whether bit i of the configuration k is 1
--   walk cs f c k           whether the configuration k, from cell c, ends at cell 1, going through at most f cells
--   mean cs c k             whether the configuration k is in the set of cell c: each cell leads to lower numbers
--   level cs c              one more than the switch of a cell, and 0 of the two that ask none
--   Ordered n cs c          cell c asks one of n switches, and its two sides, which differ, ask lower ones
--   Reduced n cs            a reduced diagram over n switches
--   same x y                two cells agree in all three
--   seek cs x m             the number below m of a cell that is x, if there is one
--   placed cs x o           the cell x, held under the number o or, where there is none, added
--   node cs x               the cell x, held or added; where its sides are one cell, that one
--   build cs i f            the reduced diagram of the set f of configurations below 2^i: low side, high side, then the cell
--   Canonical               two cells with one set are one cell
--   Grows cs ds             ds is cs with further cells
--   Made n cs i f p         p is cells that grew from cs, and the number of one that means f below 2^i
--   low_at, high_at cs s c    the side of cell c where switch s is off, where it is on: c itself where it asks a lower one
--   joint op cs a b         the configurations that an operation on the sets of two cells gives
--   applied op n cs a b     an operation on two cells: the cells after it, and the number of the answer
--   Sides n cs x            the cell x may be added over its sides
--   Reaches cs r c          cell c is in the diagram of cell r
--   Needed                  what `build` adds is of the result's diagram, and fewer than 2^n cells
use Rattle.std.specs.Prelude.{◌≡◌, ℕ, zero, suc, ◌+◌, ◌/◌, ◌%◌, ◌^◌, ◌<◌, ◌≤◌, Bool, true, false, cond, ◌&&◌, ◌≢◌, List, [], ◌∷◌, ◌++◌, length, Some, None, Option, ◌==◌, slice_index_or}

abbrev pub Cell : Type 0
Cell = ℕ × ℕ × ℕ

abbrev pub at : List Cell → ℕ → Cell
at cs c = slice_index_or cs c (0, 0, 0)

unfoldable pub on : ℕ → ℕ → Bool
on i k = k / 2 ^ i % 2 == 1

unfoldable pub walk : List Cell → ℕ → ℕ → ℕ → Bool
walk cs zero c k = c == 1
walk cs (suc f) zero k = false
walk cs (suc f) (suc zero) k = true
walk cs (suc f) (suc (suc m)) k =
    let h = walk cs f (at cs (suc (suc m))).2 k in
    let l = walk cs f (at cs (suc (suc m))).1 k in
    cond (on (at cs (suc (suc m))).0 k) h l

abbrev pub mean : List Cell → ℕ → ℕ → Bool
mean cs c k = walk cs c c k

unfoldable pub level : List Cell → ℕ → ℕ
level cs zero = 0
level cs (suc zero) = 0
level cs (suc (suc m)) = suc (at cs (suc (suc m))).0

pub record Ordered (n : ℕ) (cs : List Cell) (c : ℕ) : Type 0 where
  pub switch : (at cs c).0 < n
  pub low : (at cs c).1 < c
  pub high : (at cs c).2 < c
  pub differ : (at cs c).1 ≢ (at cs c).2
  pub low_level : level cs (at cs c).1 ≤ (at cs c).0
  pub high_level : level cs (at cs c).2 ≤ (at cs c).0

pub record Reduced (n : ℕ) (cs : List Cell) : Type 0 where
  pub admitted : n ≤ 24
  pub two : 2 ≤ length cs
  pub none : at cs 0 ≡ (32, 0, 0)
  pub all : at cs 1 ≡ (32, 1, 1)
  pub ordered : (c : ℕ) → 2 ≤ c → c < length cs → Ordered n cs c
  pub apart : (c d : ℕ) → c < length cs → d < length cs → at cs c ≡ at cs d → c ≡ d

abbrev pub same : Cell → Cell → Bool
same x y = x.0 == y.0 && (x.1 == y.1 && x.2 == y.2)

unfoldable pub seek : List Cell → Cell → ℕ → Option ℕ
seek cs x zero = None
seek cs x (suc m) = cond (same (at cs m) x) (Some m) (seek cs x m)

unfoldable pub placed : List Cell → Cell → Option ℕ → List Cell × ℕ
placed cs x None = (cs ++ x ∷ [], length cs)
placed cs x (Some c) = (cs, c)

unfoldable pub node : List Cell → Cell → List Cell × ℕ
node cs x = cond (x.1 == x.2) (cs, x.1) (placed cs x (seek cs x (length cs)))

unfoldable pub build : List Cell → ℕ → (ℕ → Bool) → List Cell × ℕ
build cs zero f = (cs, cond (f 0) 1 0)
build cs (suc i) f =
    let l = build cs i f in
    let h = build l.0 i (λ k. f (2 ^ i + k)) in
    node h.0 (i, l.1, h.1)

abbrev pub Canonical : Type 0
Canonical =
    (n : ℕ) (cs : List Cell) → Reduced n cs → (c d : ℕ) → c < length cs → d < length cs
    → ((k : ℕ) → k < 2 ^ n → mean cs c k ≡ mean cs d k) → c ≡ d

pub record Grows (cs ds : List Cell) : Type 0 where
  pub longer : length cs ≤ length ds
  pub kept : (c : ℕ) → c < length cs → at ds c ≡ at cs c

pub record Made (n : ℕ) (cs : List Cell) (i : ℕ) (f : ℕ → Bool) (p : List Cell × ℕ) : Type 0 where
  pub reduced : Reduced n p.0
  pub grows : Grows cs p.0
  pub there : p.1 < length p.0
  pub flat : level p.0 p.1 ≤ i
  pub means : (k : ℕ) → k < 2 ^ i → mean p.0 p.1 k ≡ f k

unfoldable pub low_at : List Cell → ℕ → ℕ → ℕ
low_at cs s c = cond (level cs c == suc s) (at cs c).1 c

unfoldable pub high_at : List Cell → ℕ → ℕ → ℕ
high_at cs s c = cond (level cs c == suc s) (at cs c).2 c

abbrev pub joint : (Bool → Bool → Bool) → List Cell → ℕ → ℕ → ℕ → Bool
joint op cs a b k = op (mean cs a k) (mean cs b k)

abbrev pub applied : (Bool → Bool → Bool) → ℕ → List Cell → ℕ → ℕ → List Cell × ℕ
applied op n cs a b = build cs n (joint op cs a b)

pub record Sides (n : ℕ) (cs : List Cell) (x : Cell) : Type 0 where
  pub switch : x.0 < n
  pub low : x.1 < length cs
  pub high : x.2 < length cs
  pub low_level : level cs x.1 ≤ x.0
  pub high_level : level cs x.2 ≤ x.0

pub data Reaches (cs : List Cell) : ℕ → ℕ → Type 0 where
  here : {r : ℕ} → Reaches cs r r
  by_low : {r c : ℕ} → 2 ≤ r → Reaches cs (at cs r).1 c → Reaches cs r c
  by_high : {r c : ℕ} → 2 ≤ r → Reaches cs (at cs r).2 c → Reaches cs r c

abbrev pub Needed : Type 0
Needed =
    (n : ℕ) (cs : List Cell) → Reduced n cs → (f : ℕ → Bool)
    → ((c : ℕ) → length cs ≤ c → c < length (build cs n f).0 → Reaches (build cs n f).0 (build cs n f).1 c)
    × (length (build cs n f).0 + 1 ≤ length cs + 2 ^ n)

-- Lists of names. Assumes nothing.
--   texts rs          the bytes of several parts of a text
--   index_from i ns x  the place of x in ns, counted from i, if it is there
--   index_of ns x      the same counted from 0
--   fresh ns x        x is not in ns
--   distinct_from seen ns   no name of ns is among those seen or those before it
--   distinct ns       no two are alike
use Rattle.std.specs.Prelude.{ℕ, ◌+◌, Bool, true, cond, not, ◌&&◌, List, [], ◌∷◌, ◌++◌, is_some, Some, None, Option}
use Rattle.std.specs.Borrow.{Bor}
use Rattle.std.specs.Str.{bytes_eq}

abbrev pub texts : List (Bor (List ℕ)) → List (List ℕ)
texts [] = []
texts (r ∷ rs) = r.now ∷ texts rs

abbrev pub index_from : ℕ → List (List ℕ) → List ℕ → Option ℕ
index_from i [] x = None
index_from i (n ∷ ns) x = cond (bytes_eq n x) (Some i) (index_from (i + 1) ns x)

abbrev pub index_of : List (List ℕ) → List ℕ → Option ℕ
index_of ns x = index_from 0 ns x

abbrev pub fresh : List (List ℕ) → List ℕ → Bool
fresh ns x = not (is_some (index_of ns x))

abbrev pub distinct_from : List (List ℕ) → List (List ℕ) → Bool
distinct_from seen [] = true
distinct_from seen (n ∷ ns) = fresh seen n && distinct_from (seen ++ n ∷ []) ns

abbrev pub distinct : List (List ℕ) → Bool
distinct ns = distinct_from [] ns

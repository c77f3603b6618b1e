-- What the lines read so far leave open. Assumes nothing.
--   Shape            the chains that are open, innermost first, each with whether its `else` was read; the number of blocks; the names with an entry
--   has x ns         x is one of the names
--   opened n s       an `if` kind: a chain with its first block
--   furthered n b cs s  a further block of the innermost of the chains cs; b tells whether it is the `else`
--   ended n cs s     `endif`
--   entered n x v s  `define` (v) or `undef` of x: only `define` of a name that has none makes an entry, active or not
--   shaped n s x     the shape after line x, which has number n; or the first of the refusals 17 to 20
--   ends last n r    the same, where a chain that is open behind the last line is refused too
--   begun names      the shape before the first line: the switches have an entry
use Rattle.std.specs.Prelude.{ℕ, suc, Bool, true, false, cond, not, ◌&&◌, List, [], ◌∷◌, ◌++◌, length, is_some, Ok, Err, Result, nat_le}
use Rattle.faults.specs.declared.Refusal.{Refusal}
use Rattle.text.specs.Tokens.{Bytes}
use Rattle.names.specs.Names.{index_of}
use Rattle.sources.specs.Lines.{nil}
use Rattle.sources.specs.Classified.{Test, given, otherwise, Line, plain, name, if, elif, endif, then, refuse}
use Rattle.sources.specs.Faults.{of_conditionals}

pub record Shape : Type 0 where
  pub chains : List Bool
  pub blocks : ℕ
  pub names : List Bytes

abbrev pub has : Bytes → List Bytes → Bool
has x ns = is_some (index_of ns x)

abbrev pub is_else : Test → Bool
is_else (given e) = false
is_else otherwise = true

abbrev pub opened : ℕ → Shape → Result Shape Refusal
opened n s =
    refuse (nat_le 32 (length s.chains)) (of_conditionals 18 n)
    (refuse (nat_le 255 s.blocks) (of_conditionals 19 n)
    (Ok (record { chains = false ∷ s.chains; blocks = suc s.blocks; names = s.names })))

abbrev pub furthered : ℕ → Bool → List Bool → Shape → Result Shape Refusal
furthered n b [] s = Err (of_conditionals 17 n)
furthered n b (true ∷ cs) s = Err (of_conditionals 17 n)
furthered n b (false ∷ cs) s =
    refuse (nat_le 255 s.blocks) (of_conditionals 19 n) (Ok (record { chains = b ∷ cs; blocks = suc s.blocks; names = s.names }))

abbrev pub ended : ℕ → List Bool → Shape → Result Shape Refusal
ended n [] s = Err (of_conditionals 17 n)
ended n (b ∷ cs) s = Ok (record { chains = cs; blocks = s.blocks; names = s.names })

abbrev pub entered : ℕ → Bytes → Bool → Shape → Result Shape Refusal
entered n x v s =
    cond (v && not (has x s.names))
    (refuse (nat_le 64 (length s.names)) (of_conditionals 20 n) (Ok (record { chains = s.chains; blocks = s.blocks; names = s.names ++ x ∷ [] })))
    (Ok s)

abbrev pub shaped : ℕ → Shape → Line → Result Shape Refusal
shaped n s (plain l) = Ok s
shaped n s (name x v l) = entered n x v s
shaped n s (if d) = opened n s
shaped n s (elif d) = furthered n (is_else d.when) s.chains s
shaped n s (endif l) = ended n s.chains s

abbrev pub ends : Bool → ℕ → Result Shape Refusal → Result Shape Refusal
ends last n r = then r (λ s. refuse (last && not (nil s.chains)) (of_conditionals 21 n) (Ok s))

abbrev pub begun : List Bytes → Shape
begun names = record { chains = []; blocks = 0; names = names }

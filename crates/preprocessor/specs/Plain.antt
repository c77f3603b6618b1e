-- The plain preprocessor: what one configuration keeps of a source. Assumes nothing.
--   Frame            an open chain: is its outside active, was a block taken, is this block active
--   State            the names that are defined, and the open chains, innermost first
--   active st        are the lines of the innermost block active
--   holds t D        does what a block asks hold, where D tells which names are defined
--   selects o t d D  is the block of the directive d active, where o tells whether the outside is and t whether a block of the chain was taken
--   defining a x v D `define` or `undef` of x, which acts only where active
--   step σ x         the state after line x
--   kept σ x         the lines of the output that x is: itself, where it is active and not conditional
--   output xs σ      the output
--   selected xs σ    for each block in order whether it is active
--   defined_in ns k   the names that configuration k defines at first: those of the switches that are on
--   began D          the state before the first line
--   preprocessed ns k t   the output of configuration k over the source t, where ns are the switches' names
use Rattle.std.specs.Prelude.{ℕ, Bool, true, false, cond, not, ◌&&◌, ◌||◌, List, [], ◌∷◌, ◌++◌, Some, None, Option, Result}
use Rattle.std.specs.Str.{bytes_eq}
use Rattle.faults.specs.declared.Refusal.{Refusal}
use Rattle.stores.specs.Sets.{on}
use Rattle.text.specs.Tokens.{Bytes}
use Rattle.names.specs.Names.{index_of}
use Rattle.expressions.specs.Truth.{Env, truth}
use Rattle.sources.specs.Lines.{joined}
use Rattle.sources.specs.Classified.{Test, given, otherwise, Opening, Line, plain, name, if, elif, endif, changed}
use Rattle.conditionals.specs.Reading.{read}

pub record Frame : Type 0 where
  pub outside : Bool
  pub taken : Bool
  pub act : Bool

pub record State : Type 0 where
  pub env : Env
  pub stack : List Frame

abbrev pub active : List Frame → Bool
active [] = true
active (f ∷ st) = f.act

abbrev pub holds : Test → Env → Bool
holds (given e) D = truth e D
holds otherwise D = true

abbrev pub selects : Bool → Bool → Opening → Env → Bool
selects o t d D = o && (not t && holds d.when D)

abbrev pub defining : Bool → Bytes → Bool → Env → Env
defining a x v D = λ y. cond (a && bytes_eq x y) v (D y)

abbrev pub opened : Bool → Bool → Bool → Opening → Env → Frame
opened o t now d D = record { outside = o; taken = t || now; act = now }

abbrev pub furthered : Opening → Env → List Frame → List Frame
furthered d D [] = []
furthered d D (f ∷ st) = opened f.outside f.taken (selects f.outside f.taken d D) d D ∷ st

abbrev pub popped : List Frame → List Frame
popped [] = []
popped (f ∷ st) = st

abbrev pub step : State → Line → State
step σ (plain l) = σ
step σ (name x v l) = record { env = defining (active σ.stack) x v σ.env; stack = σ.stack }
step σ (if d) =
    record { env = σ.env; stack = opened (active σ.stack) false (selects (active σ.stack) false d σ.env) d σ.env ∷ σ.stack }
step σ (elif d) = record { env = σ.env; stack = furthered d σ.env σ.stack }
step σ (endif l) = record { env = σ.env; stack = popped σ.stack }

abbrev pub kept : State → Line → List Bytes
kept σ (plain l) = cond (active σ.stack) (l ∷ []) []
kept σ (name x v l) = cond (active σ.stack) (l ∷ []) []
kept σ (if d) = []
kept σ (elif d) = []
kept σ (endif l) = []

abbrev pub output : List Line → State → List Bytes
output [] σ = []
output (x ∷ xs) σ = kept σ x ++ output xs (step σ x)

abbrev pub opens : State → Line → List Bool
opens σ (plain l) = []
opens σ (name x v l) = []
opens σ (if d) = active (step σ (if d)).stack ∷ []
opens σ (elif d) = active (step σ (elif d)).stack ∷ []
opens σ (endif l) = []

abbrev pub selected : List Line → State → List Bool
selected [] σ = []
selected (x ∷ xs) σ = opens σ x ++ selected xs (step σ x)

abbrev pub is_on : Option ℕ → ℕ → Bool
is_on None k = false
is_on (Some i) k = on i k

abbrev pub defined_in : List Bytes → ℕ → Env
defined_in ns k x = is_on (index_of ns x) k

abbrev pub began : Env → State
began D = record { env = D; stack = [] }

abbrev pub preprocessed : List Bytes → ℕ → Bytes → Result Bytes Refusal
preprocessed ns k t = changed (λ xs. joined (output xs (began (defined_in ns k)))) (read ns t)

-- The state of the code, and the state of the definition that it stands for. Assumes nothing.
--   frame_of f          the chain that a frame of the code is
--   chains_of s         the open chains of the state s, innermost first
--   Represents ns s σ  the state s stands for σ, where ns are the names with an entry: the same names are defined, the same chains are open, and no flag
--                      is set that is no name's
--   Asks t             t is a condition
--   Ready ns σ x       line x can follow: an `if` has a condition and fewer than 32 chains are open before it; the name of a `define` has an
--                      entry, and at most 64 names have one
--   marked o v fs      the flags with v at the place o
--   begun o h          the frame of a chain whose outside is active or not (o), with its first block, whose condition has the value h
--   turned h f         the frame f with the next block of the chain
--   entered h st       the chains behind an `if` whose condition has the value h
--   continued h st     the same behind an `elif`; behind an `else` where h is true
use Rattle.std.specs.Prelude.{◌≡◌, ℕ, ◌<◌, ◌≤◌, Bool, true, false, not, ◌&&◌, ◌||◌, List, [], ◌∷◌, map, reverse, length, is_some, Some, None, Option, slice_index_or, slice_set}
use Rattle.text.specs.Tokens.{Bytes}
use Rattle.names.specs.Names.{index_of}
use Rattle.sources.specs.Classified.{Test, given, otherwise, Line, plain, name, if, elif, endif}
use Rattle.truth.specs.Worked.{env_of}
use Rattle.preprocessor.specs.Plain as definition
use Rattle.preprocessor.specs.declared.state.Frame.{Frame}
use Rattle.preprocessor.specs.declared.state.State.{State}

abbrev pub frame_of : Frame → definition.Frame
frame_of f = record { outside = f.outside; taken = f.taken; act = f.active }

abbrev pub chains_of : State → List definition.Frame
chains_of s = map frame_of (reverse s.chains.items)

pub record Represents (ns : List Bytes) (s : State) (σ : definition.State) : Type 0 where
  pub names : (y : Bytes) → σ.env y ≡ env_of ns s.flags y
  pub chains : chains_of s ≡ σ.stack
  pub beyond : (i : ℕ) → length ns ≤ i → slice_index_or s.flags i false ≡ false

abbrev pub Asks : Test → Type 0
Asks (given e) = Unit {0}
Asks otherwise = ⊥

abbrev pub Ready : List Bytes → definition.State → Line → Type 0
Ready ns σ (plain l) = Unit {0}
Ready ns σ (name x true l) = (is_some (index_of ns x) ≡ true) × (length ns ≤ 64)
Ready ns σ (name x false l) = Unit {0}
Ready ns σ (if d) = Asks d.when × (length σ.stack < 32)
Ready ns σ (elif d) = Unit {0}
Ready ns σ (endif l) = Unit {0}

abbrev pub marked : Option ℕ → Bool → List Bool → List Bool
marked None v fs = fs
marked (Some i) v fs = slice_set fs i v

abbrev pub begun : Bool → Bool → Frame
begun o h = record { outside = o; taken = o && h; active = o && h }

abbrev pub turned : Bool → Frame → Frame
turned h f = record { outside = f.outside; taken = f.taken || (f.outside && (not f.taken && h)); active = f.outside && (not f.taken && h) }

abbrev pub entered : Bool → List definition.Frame → List definition.Frame
entered h st = frame_of (begun (definition.active st) h) ∷ st

abbrev pub continued : Bool → List definition.Frame → List definition.Frame
continued h [] = []
continued h (f ∷ st) =
    record { outside = f.outside; taken = f.taken || (f.outside && (not f.taken && h)); act = f.outside && (not f.taken && h) } ∷ st

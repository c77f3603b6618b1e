-- A layer over what rules allow, or only why there is none. Assumes nothing.
-- S is the type of the store, and T its ghost members.
--   told r                  the answer r with only the fault of a refusal
--   LayerOutcome s a q      q is what making a layer over the store s, from its set a, answers, so told
use Rattle.std.specs.Prelude.{◌≡◌, ℕ, Ok, Err, Result}
use Rattle.stores.specs.declared.Store.{Ghosts}
use Rattle.layers.specs.Making.{MakeAttempts, Makes}
use Rattle.layers.specs.declared.Layer.{Layer}
use Rattle.layers.specs.declared.MakeError.{MakeError}
use Rattle.layers.specs.declared.fault.LayerFault.{LayerFault}

abbrev pub told : {S : Type 0} {T : Ghosts S} → Result (Layer S T) (MakeError S) → Result (Layer S T) LayerFault
told (Ok l) = Ok l
told (Err e) = Err e.fault

pub record LayerOutcome {S : Type 0} (T : Ghosts S) (s : S) (a : ℕ) (q : Result (Layer S T) LayerFault) : Type 0 where
  pub made : Result (Layer S T) (MakeError S)
  pub attempts : MakeAttempts s a made
  pub makes : Makes s a made
  pub is : q ≡ told made

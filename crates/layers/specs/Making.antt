-- Making a rule layer over a store s, from its set a. Assumes nothing.
-- S is the type of the store, and T its ghost members.
--   MakeAttempts s a r   the steps of preparing were asked, in the store that is then below the layer, or handed back
--   Made s a l           the layer l is over s only extended; it has as many switches and places as s, allows what is allowed of set a, and
--                        its floor is the number of sets held
--   Makes s a r          accepted: such a layer; refused: s as it was, and where the rules are the reason, nothing of set a is allowed
use Rattle.std.specs.Prelude.{◌≡◌, ℕ, Ok, Err, Result}
use Rattle.stores.specs.Sets.{◌∩◌}
use Rattle.stores.specs.Model.{set_at, size}
use Rattle.stores.specs.Outcome.{Advanced}
use Rattle.stores.specs.declared.Store.{Ghosts}
use Rattle.layers.specs.Layered.{layer_model}
use Rattle.layers.specs.Preparing.{Attempts, PrepareRefused}
use Rattle.layers.specs.declared.Layer.{Layer}
use Rattle.layers.specs.declared.MakeError.{MakeError}

abbrev pub MakeAttempts : {S : Type 0} {T : Ghosts S} → S → ℕ → Result (Layer S T) (MakeError S) → Type 0
MakeAttempts {S} {T} s a (Ok l) = Attempts T.model T.rollback T.need s l.below a (Ok l.prepared)
MakeAttempts {S} {T} s a (Err e) = Attempts T.model T.rollback T.need s e.store a (Err e.fault)

pub record Made {S : Type 0} {T : Ghosts S} (s : S) (a : ℕ) (l : Layer S T) : Type 0 where
  pub advanced : Advanced T.model T.rollback s l.below
  pub n : (layer_model l).n ≡ (T.model s).n
  pub allowed : (layer_model l).allowed ≡ (T.model s).allowed ∩ set_at (T.model s) a
  pub floor : (layer_model l).floor ≡ size (layer_model l)
  pub capacity : (layer_model l).capacity ≡ (T.model s).capacity

abbrev pub Makes : {S : Type 0} {T : Ghosts S} → S → ℕ → Result (Layer S T) (MakeError S) → Type 0
Makes s a (Ok l) = Made s a l
Makes {S} {T} s a (Err e) = PrepareRefused T.model s e.store a e.fault

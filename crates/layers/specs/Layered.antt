-- What a rule layer means, over what the store below means. Assumes nothing.
-- S is the type of the store below, and T its ghost members.
--   layer_model l, layer_need l op   the model and the need of the layer l
--   layer_rollback l k               the layer l with its numbers from k on taken off, but none below its floor
use Rattle.std.specs.Prelude.{ℕ, max}
use Rattle.std.proofs.Common.{arith}
use Rattle.stores.specs.Model.{Model}
use Rattle.stores.specs.Outcome.{Op}
use Rattle.stores.specs.declared.Store.{Ghosts}
use Rattle.layers.specs.Fitting.{over, needs, fits_on, cut_untouched}
use Rattle.layers.specs.declared.Layer.{Layer}

abbrev pub layer_model : {S : Type 0} {T : Ghosts S} → Layer S T → Model
layer_model {S} {T} l = over (T.model l.below) l.prepared

abbrev pub layer_need : {S : Type 0} {T : Ghosts S} → Layer S T → Op → ℕ
layer_need {S} {T} l op = needs (T.need l.below) op

abbrev pub layer_rollback : {S : Type 0} {T : Ghosts S} → Layer S T → ℕ → Layer S T
layer_rollback {S} {T} l k =
    let to = max k l.prepared.floor in
    record {
      below = T.rollback l.below to;
      prepared = l.prepared;
      fits = fits_on l.fits (cut_untouched l.fits (omega arith) (T.rollback_laws.cuts l.below to));
    }

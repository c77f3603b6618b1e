-- How a refusal is printed. Assumes nothing.
--   layer_text l      the word for a layer
--   refusal_text r    the one line of a refusal
use Rattle.std.specs.Prelude.{ℕ, List, ◌++◌, codes, decimal}
use Rattle.faults.specs.declared.Layer.{Layer}
use Rattle.faults.specs.declared.Layer.TheVariants.{Store, Session, Rules, Lines, Expression, Conditionals}
use Rattle.faults.specs.declared.Refusal.{Refusal}

abbrev pub layer_text : Layer → List ℕ
layer_text Store = codes "store"
layer_text Session = codes "session"
layer_text Rules = codes "rules"
layer_text Lines = codes "lines"
layer_text Expression = codes "expression"
layer_text Conditionals = codes "conditionals"

abbrev pub refusal_text : Refusal → List ℕ
refusal_text r =
    codes "refused " ++ (decimal r.number ++ (codes " " ++ (layer_text r.layer ++ (codes " line " ++ (decimal r.line ++ (codes " byte " ++ decimal r.byte))))))

-- What preprocessing a source answers. Assumes nothing.
--   wanted ns k t       the output of configuration k over the source t, where ns are the switches' names; or the first refusal due
--   Told z o            z is refused by o, if o is a refusal
--   Answers z r         the answer r is what the definition's z says; want of memory says nothing
--   Preprocesses ns k t r   the same of the whole
use Rattle.std.specs.Prelude.{◌≡◌, ℕ, ◌^◌, not, List, length, Some, None, Ok, Err, vec_items, Option, Result, Vec, nat_lt}
use Rattle.std.specs.declared.alloc.Global.{Global}
use Rattle.faults.specs.declared.Refusal.{Refusal}
use Rattle.faults.specs.declared.Layer.TheVariants.{Store, Session}
use Rattle.text.specs.Tokens.{Bytes}
use Rattle.names.specs.Names.{distinct}
use Rattle.sources.specs.Classified.{refuse}
use Rattle.preprocessor.specs.Plain.{preprocessed}
use Rattle.preprocessing.specs.declared.fault.PreprocessingFault.{PreprocessingFault}
use Rattle.preprocessing.specs.Faults.{outside, described}

abbrev pub wanted : List Bytes → ℕ → Bytes → Result Bytes Refusal
wanted ns k t =
    refuse (nat_lt 24 (length ns)) (outside 7 Store)
    (refuse (not (distinct ns)) (outside 23 Session)
    (refuse (not (nat_lt k (2 ^ length ns))) (outside 4 Session)
    (preprocessed ns k t)))

abbrev pub Told : Result Bytes Refusal → Option Refusal → Type 0
Told z None = Unit {0}
Told z (Some e) = z ≡ Err e

abbrev pub Answers : Result Bytes Refusal → Result (Vec ℕ Global) PreprocessingFault → Type 0
Answers z (Ok v) = z ≡ Ok (vec_items v)
Answers z (Err f) = Told z (described f)

abbrev pub Preprocesses : List Bytes → ℕ → Bytes → Result (Vec ℕ Global) PreprocessingFault → Type 0
Preprocesses ns k t r = Answers (wanted ns k t) r

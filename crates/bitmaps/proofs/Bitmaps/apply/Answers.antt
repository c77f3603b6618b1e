use Rattle.std.proofs.Common.{ℕ, sym, ◌∙◌, subst}
use Rattle.stores.specs.Outcome.{Accepted}
use Rattle.bitmaps.specs.Meaning.{means, cut_words}
use Rattle.bitmaps.specs.Cutting.{size_means}
use Rattle.bitmaps.specs.Operations.{op_of}
use Rattle.bitmaps.proofs.Appends.{accepted_of}
use Rattle.bitmaps.proofs.Bitmaps.apply.Goals as goal

pub returns : goal.returns
returns c =
    let s = c.args.self.now in
    let ws' = c.append.new.words in
    accepted_of s ws' _ 1 c.len-number.result (op_of c.args.operation)
    (subst (λ (r : ℕ). Accepted means cut_words s.words.now ws' 1 (op_of c.args.operation) r) (sym (c.len-number.ensures ∙ size_means s.words.now)) c.append.ensures.accepted)

use Rattle.std.proofs.Common.{◌≡◌, ℕ, ◌-◌, ◌^◌, min, ap, ◌∙◌, arith}
use Rattle.std.proofs.lemmas.Nat.{one_shl}
use Rattle.bitmaps.specs.Layout.{used}
use Rattle.bitmaps.proofs.Bits.{ones_shifted}
use Rattle.bitmaps.proofs.layout.Switches.full_word.Goals as goal

pub returns : goal.returns
returns c =
    let n = c.args.self.n in
    let m = c.min.result in
    let e : m ≡ used n = c.min.ensures ∙ ap (λ (z : ℕ). min z 64) (one_shl n 32 (omega (arith, c.args.self.few))) in
    ones_shifted m (omega (arith, e)) ∙ ap (λ (z : ℕ). 2 ^ z - 1) e

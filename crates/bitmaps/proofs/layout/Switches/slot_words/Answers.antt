use Rattle.std.proofs.Common.{◌≡◌, ℕ, ◌*◌, ◌%◌, ◌^◌, ◌≤◌, ap, ◌∙◌, arith, pow_pos, pow_mono}
use Rattle.std.proofs.lemmas.Nat.{one_shl}
use Rattle.bitmaps.proofs.layout.Switches.slot_words.Goals as goal

pub returns : goal.returns
returns c =
    let n = c.args.self.n in
    let s = c.saturating_sub.result in
    let e : (1 * 2 ^ s) % 2 ^ 64 ≡ 2 ^ s = one_shl s 64 (omega (arith, c.saturating_sub.ensures, c.args.self.few)) in
    let most : 2 ^ s ≤ 2 ^ 4 = pow_mono {i = s} {j = 4} (omega (arith, c.saturating_sub.ensures, c.args.self.few)) in
    record { value = e ∙ ap (λ (z : ℕ). 2 ^ z) c.saturating_sub.ensures; bounds = (omega (arith, e, pow_pos s), omega (arith, e, most)) }

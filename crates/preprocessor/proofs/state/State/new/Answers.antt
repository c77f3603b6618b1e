use Rattle.std.proofs.Common.{◌≡◌, ℕ, min, List, map, reverse, refl, ap, ◌∙◌, subst, arith, length-set}
use Rattle.preprocessor.specs.declared.state.Frame.{Frame}
use Rattle.preprocessor.specs.Represented.{frame_of}
use Rattle.preprocessor.proofs.Flags.{Bits, bits_none, bits_more}
use Rattle.preprocessor.proofs.Standing.{stands_first}
use Rattle.preprocessor.proofs.state.State.new.Goals as goal

pub loop-i-init : goal.loop-i-init
loop-i-init c = (refl, bits_none 64 c.args.configuration)

pub loop-i-preserved : goal.loop-i-preserved
loop-i-preserved c =
    let l = c.loop-i in
    (length-set l.flags l.i _ ∙ l.invariant.0, bits_more l.i c.args.configuration l.flags _ (omega (arith, l.invariant.0)) refl l.invariant.1)

pub returns : goal.returns
returns c =
    let l = c.loop-i in
    let n = c.args.switches in
    let end : l.i ≡ min n 32 = omega (arith, c.min-i-end.ensures) in
    stands_first _ n c.args.configuration c.ranges.configuration.fits (subst (λ (m : ℕ). Bits m c.args.configuration l.flags) end l.invariant.1)
    (ap (λ (fs : List Frame). map frame_of (reverse fs)) c.new.ensures)

use Rattle.std.proofs.Common.{◌≡◌, ◌+◌, get_or, drop, sym, ap, ◌∙◌, arith, rules}
use Rattle.std.proofs.lemmas.List.{at_drop_more, at_drop_all}
use Rattle.scanning.specs.Modes.{step, steps}
use Rattle.scanning.proofs.Scanner.line.Goals as goal

pub loop-byte-preserved : goal.loop-byte-preserved
loop-byte-preserved c =
    let more = at_drop_more (steps c.loop-byte.self.mode) c.args.bytes.now c.loop-byte.byte-index 0 (omega arith) in
    let turn : c.step.new.self.mode ≡ step c.loop-byte.self.mode (get_or c.args.bytes.now c.loop-byte.byte-index 0) = search rules in
    ap (λ m. steps m (drop (c.loop-byte.byte-index + 1) c.args.bytes.now)) turn ∙ sym more ∙ c.loop-byte.invariant

pub returns : goal.returns
returns c = sym (at_drop_all (steps c.loop-byte.self.mode) c.args.bytes.now c.loop-byte.byte-index (omega arith)) ∙ c.loop-byte.invariant

use Rattle.std.proofs.Common.{sym, ◌∙◌}
use Rattle.std.proofs.lemmas.Bool.{eq-eqb, ne_eqb}
use Rattle.bitmaps.proofs.Bits.{on_pattern, on_high, on_ones, on_zero}
use Rattle.bitmaps.proofs.operation.switch_word.Goals as goal

pub returns-then-i-lt-WORD_SWITCHES : goal.returns-then-i-lt-WORD_SWITCHES
returns-then-i-lt-WORD_SWITCHES c = λ p h. on_pattern c.args.i c.args.t p c.if-i-lt-WORD_SWITCHES.true h

pub returns-then-t-i-eq1 : goal.returns-then-t-i-eq1
returns-then-t-i-eq1 c = λ p h.
    on_ones 64 p h ∙ sym (on_high c.args.i c.args.t p c.if-i-lt-WORD_SWITCHES.false h ∙ eq-eqb _ 1 c.if-t-i-eq1.true)

pub returns-else-t-i-eq1 : goal.returns-else-t-i-eq1
returns-else-t-i-eq1 c = λ p h.
    on_zero p ∙ sym (on_high c.args.i c.args.t p c.if-i-lt-WORD_SWITCHES.false h ∙ ne_eqb _ 1 c.if-t-i-eq1.false)

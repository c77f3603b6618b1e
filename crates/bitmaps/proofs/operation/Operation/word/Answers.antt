use Rattle.bitmaps.proofs.Writes.{same_operation, switch_new}
use Rattle.bitmaps.proofs.operation.Operation.word.Goals as goal

pub returns-in-Switch : goal.returns-in-Switch
returns-in-Switch c =
    let s = c.args.slots.now in
    same_operation c.in-Switch.is
    (switch_new s.switches.n s.words.now c.args.t c.word.result c.switch_word.result 0 c.in-Switch.i c.word.ensures.value c.word.ensures.unused c.switch_word.ensures)

use Rattle.std.proofs.Common.{arith}
use Rattle.bitmaps.proofs.Writes.{part_more}
use Rattle.bitmaps.proofs.operation.Operation.write.Goals as goal

pub loop-t-preserved : goal.loop-t-preserved
loop-t-preserved c =
    part_more c.args.self c.args.words.now c.loop-t.words c.start-to.result c.loop-t.t c.requires.valid c.loop-t.auto.words c.start-to.ensures c.requires.operands c.requires.room c.loop-t.invariant
    c.word-word.result (omega (arith, c.loop-t-test.true, c.slot_words-t-end.ensures.value)) c.word-word.ensures

use Rattle.std.proofs.Common.{sym, arith}
use Rattle.bitmaps.proofs.Refusals.{none_due}
use Rattle.bitmaps.proofs.Appends.{append_valid, append_accepted}
use Rattle.bitmaps.proofs.operation.Operation.append.Goals as goal

pub write-requires-clause-operands : goal.write-requires-clause-operands
write-requires-clause-operands c = (none_due c.args.words.now c.args.self (sym c.requires.due)).0

pub write-requires-clause-room : goal.write-requires-clause-room
write-requires-clause-room c = (none_due c.args.words.now c.args.self (sym c.requires.due)).1

pub returns-clause-valid : goal.returns-clause-valid
returns-clause-valid c =
    let ws = c.args.words.now in
    let fine = none_due ws c.args.self (sym c.requires.due) in
    rw (c.write.ensures.before 1 (omega arith))
    (append_valid c.args.self ws c.write.new.words c.requires.valid c.write.auto.words fine.0 fine.1 c.write.ensures)

pub returns-clause-accepted : goal.returns-clause-accepted
returns-clause-accepted c =
    let ws = c.args.words.now in
    let fine = none_due ws c.args.self (sym c.requires.due) in
    rw (c.write.ensures.before 1 (omega arith))
    (append_accepted c.args.self ws c.write.new.words c.requires.valid c.write.auto.words fine.0 fine.1 c.write.ensures c.requires.due)

use Rattle.std.proofs.Common.{inr, arith}
use Rattle.cells.specs.Words.{op_of}
use Rattle.operations.specs.Ops.{meaning}
use Rattle.cells.proofs.Restored.{accepted, restored}
use Rattle.operations.proofs.apply.operate.Goals as goal

pub returns-in-Ok : goal.returns-in-Ok
returns-in-Ok c = (
  (c.if-a-held.false, c.if-b-held.false),
  accepted c.args.words.now c.combine.new.words c.drop-guard.new.self.0 (op_of (meaning c.args.op) c.args.words.now c.args.a c.args.b) c.in-Ok.r
      c.requires (omega (arith, c.combine.auto.words)) c.in-Ok.ensures.outcome c.drop-guard.ensures,
)

pub returns : goal.returns
returns c =
    let d = c.in-Err.ensures.outcome in (
      restored c.args.words.now c.combine.new.words c.cut_cells.new.words c.drop-guard-2.new.self.0
          (op_of (meaning c.args.op) c.args.words.now c.args.a c.args.b) c.requires (omega (arith, c.combine.auto.words)) (omega (arith, c.cut_cells.auto.words))
          d.1 c.cut_cells.ensures c.drop-guard-2.ensures,
      inr (d.0, (c.if-a-held.false, c.if-b-held.false), d.1.full),
    )

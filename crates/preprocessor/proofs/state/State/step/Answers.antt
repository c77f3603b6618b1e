use Rattle.std.proofs.Common.{arith}
use Rattle.names.specs.Names.{texts}
use Rattle.preprocessor.proofs.Standing.{stands, stands_if, stands_elif}
use Rattle.preprocessor.proofs.state.State.step.Goals as goal

pub returns-in-Define : goal.returns-in-Define
returns-in-Define c =
    let d = c.define in
    stands (texts c.args.names.now) c.args.self.now d.new.self c.args.line.now _ c.in-Define.is (omega arith) (d.ensures.flags, d.ensures.chains)

pub returns-in-Undef : goal.returns-in-Undef
returns-in-Undef c =
    let d = c.define-in-Undef in
    stands (texts c.args.names.now) c.args.self.now d.new.self c.args.line.now _ c.in-Undef.is (omega arith) (d.ensures.flags, d.ensures.chains)

pub returns-in-If : goal.returns-in-If
returns-in-If c =
    let d = c.enter in
    stands_if (texts c.args.names.now) c.args.self.now d.new.self c.args.line.now c.in-If.condition c.holds-value.result (omega arith) d.ensures.flags c.holds-value.ensures c.in-If.is d.ensures.chains

pub returns-in-Elif : goal.returns-in-Elif
returns-in-Elif c =
    let d = c.proceed in
    stands_elif (texts c.args.names.now) c.args.self.now d.new.self c.args.line.now c.in-Elif.condition c.holds-value-in-Elif.result (omega arith) d.ensures.flags c.holds-value-in-Elif.ensures c.in-Elif.is d.ensures.chains

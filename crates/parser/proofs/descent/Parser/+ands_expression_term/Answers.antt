use Rattle.std.proofs.Common.{refl, ap, arith}
use Rattle.text.specs.Tokens.{nought, unit, and, or}
use Rattle.text.specs.Pulling.{placed}
use Rattle.expressions.specs.Grammar.{never, always, conj, disj, is_and, is_or, term, ands_of}
use Rattle.expressions.specs.Conditions.{kinds, false-item, true-item, and_item, or-item}
use Rattle.expressions.specs.Faults.{described}
use Rattle.parser.specs.Parsing.{ahead}
use Rattle.parser.proofs.Parts.{exits, room_later}
use Rattle.parser.proofs.Moves.{next_yes, not_and, not_or}
use Rattle.parser.proofs.Loops.{begun, shorter, again, ends, breaks}
use Rattle.parser.proofs.Arms.{term_zero, term_one, constant, unfit, behind_defined, negated, not_refused, grouped, open_refused}
use Rattle.parser.proofs.descent.Parser.+ands_expression_term.Goals as goal

pub term-returns-in-Zero : goal.term-returns-in-Zero
term-returns-in-Zero t c =
    constant c.args.left c.args.self.now c.advance.new.self c.emit.new.self nought c.in-Zero.field-0.at never false-item
    (term_zero c.args.left) refl (ap placed c.in-Zero.is) c.advance.ensures c.emit.ensures

pub term-returns-in-One : goal.term-returns-in-One
term-returns-in-One t c =
    constant c.args.left c.args.self.now c.advance-in-One.new.self c.emit-in-One.new.self unit c.in-One.field-0.at always true-item
    (term_one c.args.left) refl (ap placed c.in-One.is) c.advance-in-One.ensures c.emit-in-One.ensures

pub term-returns-in-Defined : goal.term-returns-in-Defined
term-returns-in-Defined t c =
    behind_defined c.args.left c.args.self.now c.advance-in-Defined.new.self c.defined.new.self c.in-Defined.field-0.at c.defined.result
    (ap placed c.in-Defined.is) c.advance-in-Defined.ensures c.defined.ensures

pub term-returns-in_err-term-in-Not : goal.term-returns-in_err-term-in-Not
term-returns-in_err-term-in-Not t c =
    not_refused c.args.left c.args.self.now c.advance-in-Not.new.self c.in-Not.field-0.at (omega arith) (ap placed c.in-Not.is) c.advance-in-Not.ensures
    c.term.new.self c.from_residual.result c.in_err-term-in-Not.field-0.0 (exits c.from_residual.result c.in_err-term-in-Not.field-0.0 c.from_residual.ensures.1) c.in_err-term-in-Not.ensures

pub term-returns-in_ok-term-in-Not : goal.term-returns-in_ok-term-in-Not
term-returns-in_ok-term-in-Not t c =
    negated c.args.left c.args.self.now c.advance-in-Not.new.self c.in-Not.field-0.at (omega arith) (ap placed c.in-Not.is) c.advance-in-Not.ensures
    c.term.new.self c.emit-in-Not.new.self tt c.in_ok-term-in-Not.ensures c.emit-in-Not.ensures

pub term-returns-in_err-expression-in-Open : goal.term-returns-in_err-expression-in-Open
term-returns-in_err-expression-in-Open t c =
    open_refused c.args.left c.args.self.now c.advance-in-Open.new.self c.in-Open.field-0.at (omega arith) (ap placed c.in-Open.is) c.advance-in-Open.ensures
    c.expression.new.self c.from_residual-in_err-expression-in-Open.result c.in_err-expression-in-Open.field-0.0 (exits c.from_residual-in_err-expression-in-Open.result c.in_err-expression-in-Open.field-0.0 c.from_residual-in_err-expression-in-Open.ensures.1) c.in_err-expression-in-Open.ensures

pub term-returns-in_ok-expression-in-Open : goal.term-returns-in_ok-expression-in-Open
term-returns-in_ok-expression-in-Open t c =
    grouped c.args.left c.args.self.now c.advance-in-Open.new.self c.in-Open.field-0.at (omega arith) (ap placed c.in-Open.is) c.advance-in-Open.ensures
    c.expression.new.self c.close.new.self tt c.close.result c.in_ok-expression-in-Open.ensures c.close.ensures

pub term-returns-in-And : goal.term-returns-in-And
term-returns-in-And t c =
    unfit c.args.left c.args.self.now c.args.self.now c.fault-in-And.result c.in-And.is (ap described c.fault-in-And.ensures)

pub ands-loop-self-init : goal.ands-loop-self-init
ands-loop-self-init t c =
    begun is_and conj (λ s. term c.args.left s) c.args.self.now c.term.new.self tt (term c.args.left (kinds (ahead c.args.self.now))) c.in_ok-term.ensures

pub ands-returns-in_err-term-2 : goal.ands-returns-in_err-term-2
ands-returns-in_err-term-2 t c =
    breaks is_and conj (λ s. term c.args.left s) c.args.self.now c.term.new.self tt c.in_ok-term.ensures
    c.loop-self.self c.advance.new.self c.term-in-And.new.self c.from_residual-in_err-term-2.result c.in_err-term-2.field-0.0
    c.loop-self.invariant (next_yes is_and c.loop-self.self and c.in-And.field-0.at (ap placed c.in-And.is) refl) c.advance.ensures (exits c.from_residual-in_err-term-2.result c.in_err-term-2.field-0.0 c.from_residual-in_err-term-2.ensures.1) c.in_err-term-2.ensures

pub ands-emit-requires : goal.ands-emit-requires
ands-emit-requires t c =
    room_later c.loop-self.self c.advance.new.self c.term-in-And.new.self (term c.args.left (kinds (ahead c.advance.new.self))) tt c.advance.ensures c.in_ok-term-2.ensures

pub ands-loop-self-smaller : goal.ands-loop-self-smaller
ands-loop-self-smaller t c =
    shorter is_and conj (λ s. term c.args.left s) c.term.new.self c.loop-self.self c.advance.new.self c.term-in-And.new.self c.emit.new.self and_item tt
    c.loop-self.invariant (next_yes is_and c.loop-self.self and c.in-And.field-0.at (ap placed c.in-And.is) refl) c.advance.ensures c.in_ok-term-2.ensures c.emit.ensures

pub ands-loop-self-preserved : goal.ands-loop-self-preserved
ands-loop-self-preserved t c =
    again is_and conj (λ s. term c.args.left s) c.term.new.self c.loop-self.self c.advance.new.self c.term-in-And.new.self c.emit.new.self and_item tt
    c.loop-self.invariant (next_yes is_and c.loop-self.self and c.in-And.field-0.at (ap placed c.in-And.is) refl) c.advance.ensures c.in_ok-term-2.ensures c.emit.ensures
    (λ e f. refl)

pub ands-returns : goal.ands-returns
ands-returns t c =
    ends is_and conj (λ s. term c.args.left s) c.args.self.now c.term.new.self tt c.in_ok-term.ensures c.loop-self.self c.loop-self.invariant
    (not_and c.loop-self.self.token _ c.in_default.not-And)

pub expression-loop-self-init : goal.expression-loop-self-init
expression-loop-self-init t c =
    begun is_or disj (λ s. ands_of c.args.left s) c.args.self.now c.ands.new.self tt (ands_of c.args.left (kinds (ahead c.args.self.now))) c.in_ok-ands.ensures

pub expression-returns-in_err-ands-2 : goal.expression-returns-in_err-ands-2
expression-returns-in_err-ands-2 t c =
    breaks is_or disj (λ s. ands_of c.args.left s) c.args.self.now c.ands.new.self tt c.in_ok-ands.ensures
    c.loop-self.self c.advance.new.self c.ands-in-Or.new.self c.from_residual-in_err-ands-2.result c.in_err-ands-2.field-0.0
    c.loop-self.invariant (next_yes is_or c.loop-self.self or c.in-Or.field-0.at (ap placed c.in-Or.is) refl) c.advance.ensures (exits c.from_residual-in_err-ands-2.result c.in_err-ands-2.field-0.0 c.from_residual-in_err-ands-2.ensures.1) c.in_err-ands-2.ensures

pub expression-emit-requires : goal.expression-emit-requires
expression-emit-requires t c =
    room_later c.loop-self.self c.advance.new.self c.ands-in-Or.new.self (ands_of c.args.left (kinds (ahead c.advance.new.self))) tt c.advance.ensures c.in_ok-ands-2.ensures

pub expression-loop-self-smaller : goal.expression-loop-self-smaller
expression-loop-self-smaller t c =
    shorter is_or disj (λ s. ands_of c.args.left s) c.ands.new.self c.loop-self.self c.advance.new.self c.ands-in-Or.new.self c.emit.new.self or-item tt
    c.loop-self.invariant (next_yes is_or c.loop-self.self or c.in-Or.field-0.at (ap placed c.in-Or.is) refl) c.advance.ensures c.in_ok-ands-2.ensures c.emit.ensures

pub expression-loop-self-preserved : goal.expression-loop-self-preserved
expression-loop-self-preserved t c =
    again is_or disj (λ s. ands_of c.args.left s) c.ands.new.self c.loop-self.self c.advance.new.self c.ands-in-Or.new.self c.emit.new.self or-item tt
    c.loop-self.invariant (next_yes is_or c.loop-self.self or c.in-Or.field-0.at (ap placed c.in-Or.is) refl) c.advance.ensures c.in_ok-ands-2.ensures c.emit.ensures
    (λ e f. refl)

pub expression-returns : goal.expression-returns
expression-returns t c =
    ends is_or disj (λ s. ands_of c.args.left s) c.args.self.now c.ands.new.self tt c.in_ok-ands.ensures c.loop-self.self c.loop-self.invariant
    (not_or c.loop-self.self.token _ c.in_default.not-Or)

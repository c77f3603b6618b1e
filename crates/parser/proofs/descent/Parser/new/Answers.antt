use Rattle.parser.proofs.Lines.{fresh_at, fresh_part, fresh_room}
use Rattle.parser.proofs.descent.Parser.new.Goals as goal

pub invariant_of-result-clause-at : goal.invariant_of-result-clause-at
invariant_of-result-clause-at c =
    fresh_at c.args.operand c.in_ok-tokens.tokens c.next-token.new.self c.next-token.result c.new.result c.in_ok-tokens.ensures.short c.new.ensures
    c.in_ok-tokens.ensures.left c.next-token.ensures.line c.next-token.ensures.token c.next-token.ensures.place

pub invariant_of-result-clause-part : goal.invariant_of-result-clause-part
invariant_of-result-clause-part c =
    fresh_part c.args.operand c.in_ok-tokens.tokens c.next-token.new.self c.next-token.result c.new.result c.in_ok-tokens.ensures.short c.new.ensures
    c.in_ok-tokens.ensures.left c.next-token.ensures.line c.next-token.ensures.token c.next-token.ensures.part

pub invariant_of-result-clause-room : goal.invariant_of-result-clause-room
invariant_of-result-clause-room c =
    fresh_room c.args.operand c.in_ok-tokens.tokens c.next-token.new.self c.next-token.result c.new.result c.in_ok-tokens.ensures.short c.new.ensures
    c.in_ok-tokens.ensures.left c.next-token.ensures.line c.next-token.ensures.token

use Rattle.std.proofs.Common.{◌≡◌, ◌-◌, Bool, length, drop, refl, ap, ◌∙◌, arith}
use Rattle.text.specs.Tokens.{Bytes, gap, between}
use Rattle.text.proofs.Pulled.{pulled}
use Rattle.text.proofs.scanner.Tokens.next.Goals as goal

-- what is left behind the gap
rest : (c : Bool) (s b r : Bytes) → b ≡ s → r ≡ drop (gap c between b) b → r ≡ drop (gap c between s) s
rest c s b r e f = f ∙ ap (λ (q : Bytes). drop (gap c between q) q) e

pub returns : goal.returns
returns c =
    let self = c.args.self.now in
    let line = self.line.now in
    let r = c.behind_gap-rest.result.now in
    let t = c.first_token-token.result in
    let e = rest self.comments (drop self.next line) c.behind.result.now r c.behind.ensures c.behind_gap-rest.ensures in
    let p = pulled self.comments line self.next (length line - length r) _ r t c.part.result e refl c.part.ensures refl c.first_token-token.ensures.placed c.first_token-token.ensures.text c.first_token-token.ensures.at in
    record { token = p.token; place = p.at; part = p.part; within = omega (arith, c.first_token-token.ensures.at); extent = p.extent; line = refl; comments = refl }

use Rattle.std.proofs.Common.{ℕ, ◌+◌, ◌-◌, ◌≤◌, List, length, get_or, set, ap, ◌∙◌, ap₂, arith, rules}
use Rattle.std.proofs.lemmas.List.{places, length-set}
use Rattle.cells.specs.Words.{count, chain_of}
use Rattle.cells.proofs.Filled.{filled_four}
use Rattle.cells.proofs.pool.pop_cell.Goals as goal

pub returns : goal.returns
returns c =
    let ws : List ℕ = c.args.words.now in
    let last : ℕ = count ws - 1 in
    let p : ℕ = c.place-place.result in
    let unlinked : ℕ → ℕ → List ℕ = λ q h. set ws (2 + h) (get_or ws (q + 3) 0) in
    let n = length-set ws (2 + c.chain-head.result) (get_or ws (p + 3) 0) in
    let fits : p + 4 ≤ length (unlinked p c.chain-head.result) = omega (arith, n, c.requires.0.lies.room, c.requires.0.lies.count_is, c.requires.1, c.place-place.ensures) in
    ap (λ (v : List ℕ). set v 1 last)
    (filled_four p (p + 4 - p) (unlinked p c.chain-head.result) c.fill.new.self (omega arith) fits (search (rules, places)) (λ j h. search (rules, places)))
    ∙ ap₂ (λ (q h : ℕ). set (set (set (set (set (unlinked q h) q 0) (q + 1) 0) (q + 2) 0) (q + 3) 0) 1 last)
    c.place-place.ensures (c.chain-head.ensures ∙ ap chain_of c.node.ensures)

use Rattle.std.proofs.Common.{◌≡◌, ℕ, ◌+◌, ◌-◌, ◌≤◌, List, length, get_or, take, drop, sym, ◌∙◌, arith, rules, tests}
use Rattle.std.specs.List.{position}
use Rattle.std.proofs.lemmas.Iterator.{YieldsList-from_slice}
use Rattle.std.proofs.lemmas.Iterator.Search.{position_from_yields_List}
use Rattle.bitmaps.specs.Layout.{start, width}
use Rattle.bitmaps.specs.Cutting.{start_before}
use Rattle.bitmaps.proofs.Questions.{filled, search_none, search_found}
use Rattle.bitmaps.proofs.layout.Slots.lowest.Goals as goal

pub returns-in_err-t : goal.returns-in_err-t
returns-in_err-t c =
    let s = c.args.self.now in
    let f = c.start-from.result in
    let w = c.slot_words.result in
    let words : List ℕ = take (f + w - f) (drop f s.words.now) in
    let e : c.position.result ≡ position filled words = position_from_yields_List filled _ _ c.position.result c.position.ensures.ran (YieldsList-from_slice words (cc)) (λ x b q k. search (rules, tests)) in
    let fits : start s.switches.n c.args.j + width s.switches.n ≤ length s.words.now = omega (arith, s.held.within, start_before s.switches.n c.args.j (get_or s.words.now 1 0) c.requires) in
    rw c.from_residual.ensures (search_none s.switches.n s.words.now c.args.j f w c.start-from.ensures c.slot_words.ensures.value fits (sym e ∙ c.in_err-t.was))

pub returns : goal.returns
returns c =
    let s = c.args.self.now in
    let f = c.start-from.result in
    let w = c.slot_words.result in
    let words : List ℕ = take (f + w - f) (drop f s.words.now) in
    let e : c.position.result ≡ position filled words = position_from_yields_List filled _ _ c.position.result c.position.ensures.ran (YieldsList-from_slice words (cc)) (λ x b q k. search (rules, tests)) in
    let below = start_before s.switches.n c.args.j (get_or s.words.now 1 0) c.requires in
    let fits : start s.switches.n c.args.j + width s.switches.n ≤ length s.words.now = omega (arith, s.held.within, below) in
    search_found s.switches.n s.words.now c.args.j f w c.start-from.ensures c.slot_words.ensures.value fits c.in_ok-t.t (λ i lo hi. s.held.unused i lo (omega (arith, hi, below))) (sym e ∙ c.in_ok-t.was)

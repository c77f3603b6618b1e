use Rattle.std.proofs.Common.{ℕ, ◌-◌, ◌<◌, List, sym, subst, arith}
use Rattle.cells.specs.Words.{count, Cut}
use Rattle.cells.proofs.Popped.{Less, popped_places, cut_more}
use Rattle.cells.proofs.pool.cut_cells.Goals as goal

pub loop-words-preserved : goal.loop-words-preserved
loop-words-preserved c =
    let ws : List ℕ = c.args.words.now in
    let ws₁ : List ℕ = c.loop-words.words in
    let ws₂ : List ℕ = c.pop_cell.new.words in
    let x : Cut ws ws₁ (count ws₁) = c.loop-words.invariant.0 in
    let two : 2 < count ws₁ = omega arith in
    let p : Less ws₁ ws₂ =
    subst (Less ws₁) (sym c.pop_cell.ensures) (popped_places ws₁ two (omega (arith, x.formed.lies.room, x.formed.lies.count_is))) in
    let y : Cut ws ws₂ (count ws₁ - 1) = cut_more ws ws₁ ws₂ (count ws₁) x two p in
    (subst (Cut ws ws₂) (sym y.count_is) y, omega (arith, y.count_is))

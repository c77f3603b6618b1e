use Rattle.std.proofs.Common.{◌∙◌, refl, sym}
use Rattle.scanning.specs.Modes.{open_after}
use Rattle.sources.specs.Lines.{lines}
use Rattle.sources.proofs.Lines.{nil_lines, placed_more}
use Rattle.sources.proofs.place.SourceLinesIterator.next.Goals as goal

pub returns-clause-steps : goal.returns-clause-steps
returns-clause-steps c =
    let s = c.args.self.now in
    let behind = c.next.new.self.0.now in
    rw (sym c.open_after-self.ensures.value)
    (placed_more c.open_after-self.result s.number (lines s.rest.0.now) (lines behind) c.in_ok-text.text.now c.is_empty.result (open_after c.open_after-self.result c.in_ok-text.text.now)
    c.in_ok-text.ensures.steps (c.is_empty.ensures ∙ nil_lines behind) refl)

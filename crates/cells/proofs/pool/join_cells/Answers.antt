use Rattle.std.proofs.Common.{ℕ, ◌+◌, ◌*◌, ◌<◌, List, sym, refl, ◌∙◌, subst, inl, arith}
use Rattle.std.proofs.lemmas.Nat.{mod_below}
use Rattle.cells.specs.Cells.{Cell, node}
use Rattle.cells.specs.Words.{cells_of, count, capacity, Stepped}
use Rattle.cells.specs.Nodes.{cell_of}
use Rattle.cells.proofs.Pushed.{Places, pushed_places, stepped_one, stepped_held, stepped_new, out_of_room}
use Rattle.cells.proofs.pool.join_cells.Goals as goal

pub returns-then-x-clause-outcome : goal.returns-then-x-clause-outcome
returns-then-x-clause-outcome c = stepped_one c.args.words.now c.requires.0 c.args.x.switch c.args.x.low c.args.x.high c.if-x.true

pub returns-in-Some-clause-outcome : goal.returns-in-Some-clause-outcome
returns-in-Some-clause-outcome c =
    stepped_held c.args.words.now c.requires.0 (cell_of c.args.x) c.in-Some.found c.if-x.false (sym c.in-Some.is ∙ c.seek.ensures)

pub returns-then-words-room : goal.returns-then-words-room
returns-then-words-room c =
    record {
      outcome = (
        refl,
        out_of_room c.args.words.now c.requires.0 (cell_of c.args.x) c.if-x.false (sym c.in_default.is ∙ c.seek.ensures) (omega arith),
      );
      working = λ i h l. refl;
      same = refl;
    }

pub returns : goal.returns
returns c =
    let ws : List ℕ = c.args.words.now in
    let ws' : List ℕ = c.push_cell.new.words in
    let x : Cell = cell_of c.args.x in
    let full : count ws < capacity ws = omega (arith, c.if-words-room.false, c.room.ensures) in
    let p : Places ws ws' x =
    subst (λ (v : List ℕ). Places ws v x) (sym c.push_cell.ensures.after) (pushed_places ws x (omega (arith, full))) in
    record {
      outcome = subst (Stepped ws ws' (node (cells_of ws) x)) (sym c.push_cell.ensures.number)
          (stepped_new ws ws' c.requires.0 x c.requires.1 c.if-x.false (sym c.in_default.is ∙ c.seek.ensures) full p);
      working = λ i h l.
          p.other i (λ e. omega arith) (λ e. omega (arith, mod_below (x.0 + 3 * x.1 + 5 * x.2) 64 (omega arith))) (inl (omega arith));
      same = tt;
    }

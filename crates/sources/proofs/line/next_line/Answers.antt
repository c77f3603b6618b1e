use Rattle.std.proofs.Common.{◌-◌, length, arith}
use Rattle.sources.proofs.Lines.{cut_first, cut_whole, cut_content, behind_within}
use Rattle.sources.proofs.line.next_line.Goals as goal

pub overflow_sub-result : goal.overflow_sub-result
overflow_sub-result c = behind_within c.args.text.now c.first_line.result.1.now c.first_line.ensures.behind

pub returns : goal.returns
returns c =
    let s = c.args.text.now in
    let b = c.first_line.result.1.now in
    let e = c.first_line.ensures.behind in
    record {
      first = cut_first s b (length s - length b - 0) e (omega arith);
      whole = cut_whole s b (length s - length b - 0) e (omega arith);
      shorter = c.first_line.ensures.shorter;
      content = cut_content s b (length s - length b - 0) e (omega arith);
    }

use Rattle.std.proofs.Common.{suc, drop, refl}
use Rattle.text.proofs.Laws.{reads, only}
use Rattle.text.proofs.scanner.Tokens.new.Goals as goal

pub returns : goal.returns
returns c =
    record {
      left = refl;
      line = refl;
      comments = refl;
      reads = reads c.args.comments (suc c.args.from) (drop c.args.from c.args.line.now);
      only = λ ps h. only h;
    }

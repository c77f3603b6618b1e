use Rattle.std.proofs.Common.{◌≡◌, length, sym, ap, codes, arith, rules}
use Rattle.std.proofs.lemmas.Slice.Eq.{HasBytesAt, text_from_reads}
use Rattle.directives.specs.Gaps.{Bytes}
use Rattle.directives.specs.Directives.{table, lookup}
use Rattle.directives.proofs.name.directive_named.Goals as goal

read : (n w : Bytes) → length n ≡ length w → HasBytesAt n 0 w → lookup table w ≡ lookup table n
read n w l h = ap (lookup table) (sym (text_from_reads n w l h))

pub returns-in-ifdef : goal.returns-in-ifdef
returns-in-ifdef c = read c.args.name.now (codes "ifdef") (omega arith) (search rules, (search rules, (search rules, (search rules, (search rules, tt)))))

pub returns-in-ifndef : goal.returns-in-ifndef
returns-in-ifndef c = read c.args.name.now (codes "ifndef") (omega arith) (search rules, (search rules, (search rules, (search rules, (search rules, (search rules, tt))))))

pub returns-in-elif : goal.returns-in-elif
returns-in-elif c = read c.args.name.now (codes "elif") (omega arith) (search rules, (search rules, (search rules, (search rules, tt))))

pub returns-in-elifdef : goal.returns-in-elifdef
returns-in-elifdef c = read c.args.name.now (codes "elifdef") (omega arith) (search rules, (search rules, (search rules, (search rules, (search rules, (search rules, (search rules, tt)))))))

pub returns-in-elifndef : goal.returns-in-elifndef
returns-in-elifndef c = read c.args.name.now (codes "elifndef") (omega arith) (search rules, (search rules, (search rules, (search rules, (search rules, (search rules, (search rules, (search rules, tt))))))))

pub returns-in-else : goal.returns-in-else
returns-in-else c = read c.args.name.now (codes "else") (omega arith) (search rules, (search rules, (search rules, (search rules, tt))))

pub returns-in-endif : goal.returns-in-endif
returns-in-endif c = read c.args.name.now (codes "endif") (omega arith) (search rules, (search rules, (search rules, (search rules, (search rules, tt)))))

pub returns-in-define : goal.returns-in-define
returns-in-define c = read c.args.name.now (codes "define") (omega arith) (search rules, (search rules, (search rules, (search rules, (search rules, (search rules, tt))))))

pub returns-in-undef : goal.returns-in-undef
returns-in-undef c = read c.args.name.now (codes "undef") (omega arith) (search rules, (search rules, (search rules, (search rules, (search rules, tt)))))

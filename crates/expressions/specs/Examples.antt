-- Lines with their conditions and refusals. Assumes nothing.
--   Examples   what the definitions make of some lines: the expression, or the number and the byte of the refusal
use Rattle.std.specs.Prelude.{◌≡◌, true, false, Some, None, Ok, Err, codes}
use Rattle.text.specs.Tokens.{Bytes}
use Rattle.expressions.specs.Grammar.{never, always, named, neg, conj, disj}
use Rattle.expressions.specs.Conditions.{condition_at, only_name, nothing_at}

abbrev pub Long : Bytes
Long = codes "LONG"

abbrev pub Wide : Bytes
Wide = codes "WIDE"

abbrev pub Examples : Type 0
Examples =
    (condition_at true (codes "#if defined LONG && !defined(WIDE)") 3 ≡ Ok (conj (named Long) (neg (named Wide))))
    × (condition_at true (codes "#if 0||1 &&/* x */1 // y") 3 ≡ Ok (disj never (conj always always)))
    × (condition_at false (codes "rule !defined LONG || defined WIDE") 4 ≡ Ok (disj (neg (named Long)) (named Wide)))
    × (condition_at true (codes "#if") 3 ≡ Err (14, 4))
    × (condition_at true (codes "#if defined(LONG") 3 ≡ Err (14, 17))
    × (condition_at true (codes "#if defined()") 3 ≡ Err (13, 13))
    × (condition_at true (codes "#if defined defined") 3 ≡ Err (13, 13))
    × (condition_at true (codes "#if 00") 3 ≡ Err (14, 5))
    × (condition_at true (codes "#if 1u") 3 ≡ Err (14, 5))
    × (condition_at true (codes "#if 1 & & 1") 3 ≡ Err (14, 7))
    × (condition_at true (codes "#if LONG") 3 ≡ Err (15, 5))
    × (condition_at true (codes "#if 1 LONG") 3 ≡ Err (14, 7))
    × (condition_at true (codes "!!!!!!!!!!!!!!!!!1") 0 ≡ Err (16, 17))
    × (condition_at true (codes "((((((((((((((((defined(LONG)))))))))))))))))") 0 ≡ Ok (named Long))
    × (condition_at false (codes "rule 1 /* x */") 4 ≡ Err (14, 8))
    × (only_name true (codes "#ifdef LONG /* x */") 6 ≡ Ok Long)
    × (only_name true (codes "#ifdef LONG WIDE") 6 ≡ Err (14, 13))
    × (only_name true (codes "#ifdef defined") 6 ≡ Err (13, 8))
    × (only_name true (codes "#ifdef ") 6 ≡ Err (13, 8))
    × (nothing_at true (codes "#else // x") 5 ≡ None)
    × (nothing_at true (codes "#else /* x */ y") 5 ≡ Some (14, 15))

use Rattle.std.proofs.Common.{◌≡◌, ℕ, List, codes, sym, ap, ◌∙◌, rules, arith}
use Rattle.std.proofs.lemmas.Slice.Eq.{text_from_reads}
use Rattle.rulelines.specs.declared.kind.LineKind.TheVariants.{Switch, Begin}
use Rattle.rulelines.specs.Kinds.{by_word}
use Rattle.rulelines.proofs.kind.by_word.Goals as goal

-- the longer words are past what the search reads byte by byte
switch_word : (x : List ℕ) (behind b : ℕ) → x ≡ codes "switch" → behind ≡ b → Switch behind ≡ by_word x b
switch_word x behind b e f = ap Switch f ∙ ap (λ (y : List ℕ). by_word y b) (sym e)

begin_word : (x : List ℕ) (behind b : ℕ) → x ≡ codes "begin" → behind ≡ b → Begin behind ≡ by_word x b
begin_word x behind b e f = ap Begin f ∙ ap (λ (y : List ℕ). by_word y b) (sym e)

pub returns-in-switch : goal.returns-in-switch
returns-in-switch c = switch_word c.args.word.text.now _ _ (text_from_reads c.args.word.text.now (codes "switch") (omega arith) (search rules)) (omega arith)

pub returns-in-begin : goal.returns-in-begin
returns-in-begin c = begin_word c.args.word.text.now _ _ (text_from_reads c.args.word.text.now (codes "begin") (omega arith) (search rules)) (omega arith)

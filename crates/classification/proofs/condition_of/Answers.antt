use Rattle.std.proofs.Common.{Bool, sym, subst}
use Rattle.expressions.specs.Conditions.{condition_at}
use Rattle.expressions.specs.Placed.{read_in}
use Rattle.directives.specs.declared.Form.{Form}
use Rattle.sources.specs.Classified.{condition_of}
use Rattle.classification.specs.Parts.{Tests}
use Rattle.classification.proofs.Read.{condition_read, line_read}
use Rattle.classification.proofs.condition_of.Goals as goal

pub returns-in-Expression : goal.returns-in-Expression
returns-in-Expression c =
    let o = c.args.operand in
    let r = c.condition in
    let read = condition_read o.line.now o.number (condition_at o.comments o.line.now o.from) r.result r.ensures.long r.ensures.reads in
    record {
      steps =
          subst (λ (f : Form). Tests (read_in o.line.now o.number (condition_of f o.line.now o.from)) r.result) (sym c.in-Expression.is)
          (subst (λ (b : Bool). Tests (read_in o.line.now o.number (condition_at b o.line.now o.from)) r.result) c.requires read);
      line = line_read o.line.now o.number (condition_at o.comments o.line.now o.from) r.result r.ensures.long r.ensures.reads;
    }

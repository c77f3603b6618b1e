-- What every rule line is read with, as the definitions take it. Assumes nothing.
--   names r, lookup r    the declared names, and their entries
--   answer_of r           the answer that the code gives
--   RulesOutcome ..      the whole call: names that are not one for each switch, or of which two are alike, are refused with the store as it was;
--                        else an attempt at `ruled`, with some numbers that hold the empty set and the allowed configurations
--   lined content behind a line and what stands behind it
use Rattle.std.specs.Prelude.{◌≡◌, ℕ, cond, ◌&&◌, List, length, Err, Result, ◌==◌}
use Rattle.stores.specs.Sets.{empty}
use Rattle.stores.specs.Model.{Model}
use Rattle.stores.specs.Outcome.{Op}
use Rattle.stores.specs.Steps.{Attempt}
use Rattle.evaluation.specs.Meaning.{Denotes}
use Rattle.rulelines.specs.declared.fault.RuleFault.{RuleFault}
use Rattle.rulelines.specs.declared.fault.RuleFault.TheVariants.{Names}
use Rattle.rules.specs.Turns.{seen}
use Rattle.lines.specs.Lines.{Line}
use Rattle.names.specs.Names.{texts, distinct}
use Rattle.text.specs.Tokens.{Bytes}
use Rattle.evaluation.specs.declared.Evaluator.{Evaluator}
use Rattle.rules.specs.declared.entries.Switches.{Switches}
use Rattle.rules.specs.declared.reading.Rules.{Rules}
use Rattle.rules.specs.Ruled.{Looked, Answer, entry_of, ruled}

abbrev pub names : Evaluator Switches → List Bytes
names r = texts r.entries.names.now

abbrev pub lookup : Evaluator Switches → Looked
lookup r = entry_of (names r) r.entries.numbers.now

abbrev pub lined : Bytes → Bytes → Line
lined content behind = record { content = content; behind = behind }

abbrev pub answer_of : Rules → Answer
answer_of r = (r.allowed, r.rest.now)

abbrev pub RulesOutcome : {S : Type 0} → (S → Model) → (S → ℕ → S) → (S → Op → ℕ) → List Bytes → ℕ → Bytes → S → S → Result Rules RuleFault → Type 0
RulesOutcome {S} model rollback need ns l text s s' r =
    cond (length ns == (model s).n && distinct ns)
    ((none : ℕ) × (top : ℕ) × Denotes (model s) none empty × Denotes (model s) top (model s).allowed × Attempt model rollback need (ruled ns (model s).n none top l text) s s' (seen answer_of r))
    ((r ≡ Err Names) × (s' ≡ s))

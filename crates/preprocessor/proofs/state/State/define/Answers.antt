use Rattle.std.proofs.Common.{sym, refl, ◌∙◌, arith}
use Rattle.preprocessor.specs.Plain.{active}
use Rattle.preprocessor.specs.Represented.{chains_of}
use Rattle.preprocessor.proofs.Flags.{unnoted}
use Rattle.preprocessor.proofs.state.State.define.Goals as goal

pub returns-else-i-lt-MAX_NAMES : goal.returns-else-i-lt-MAX_NAMES
returns-else-i-lt-MAX_NAMES c =
    let s = c.args.self.now in
    record {
      flags = unnoted (active (chains_of s)) c.args.value s.flags _ c.in-Some.i (sym c.index_of.ensures ∙ c.in-Some.is) (omega arith);
      chains = refl;
    }

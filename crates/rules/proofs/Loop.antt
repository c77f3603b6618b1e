-- The loop over rule lines.
use Rattle.std.proofs.Common.{◌≡◌, ℕ, ◌<◌, List, length, Some, None, Ok, Option, Result, sym, subst}
use Rattle.faults.specs.declared.Refusal.{Refusal}
use Rattle.stores.specs.Model.{Model}
use Rattle.stores.specs.Outcome.{Op}
use Rattle.stores.specs.Steps.{Steps, Runs}
use Rattle.lines.specs.Lines.{Line, until_feed, past_feed, lines_of, FirstLine}
use Rattle.text.specs.Tokens.{Bytes}
use Rattle.evaluation.specs.declared.Evaluator.{Evaluator}
use Rattle.rules.specs.declared.entries.Switches.{Switches}
use Rattle.rulelines.specs.Kinds.{kind_of, next_line}
use Rattle.rules.specs.Ruled.{Answer, by_kind, ruling}
use Rattle.rules.specs.Read.{names, lookup, lined}
use Rattle.rules.specs.Turns.{Turned}

module _ {S : Type 0} (model : S → Model) (rollback : S → ℕ → S) (need : S → Op → ℕ) (rd : Evaluator Switches) (l₀ : ℕ) (text : Bytes) (s₀ : S) where
  -- what the lines of `rest` do from here, all lines do from the start
  abbrev pub GoesOn : ℕ → ℕ → Bytes → S → Type 0
  GoesOn acc l rest s =
      (s' : S) (r : Result Answer Refusal) → Runs model rollback need (ruling (names rd) (lookup rd) rd.known.none rd.known.top acc l (lines_of rest)) s s' r
      → Runs model rollback need (ruling (names rd) (lookup rd) rd.known.none rd.known.top rd.known.top l₀ (lines_of text)) s₀ s' r

  -- the first line and those behind it
  abbrev first-steps : ℕ → ℕ → Bytes → Bytes → Steps Answer Refusal
  first-steps acc l line behind = by_kind (kind_of line) (names rd) (lookup rd) rd.known.none rd.known.top acc l (lined line behind) (λ d. ruling (names rd) (lookup rd) rd.known.none rd.known.top d l (lines_of behind))

  split : (acc l l' : ℕ) (rest line behind : Bytes) (s s' : S) (r : Result Answer Refusal) → 0 < length rest → FirstLine rest → line ≡ until_feed rest → behind ≡ past_feed rest → l' ≡ next_line l
      → Runs model rollback need (first-steps acc l' line behind) s s' r → Runs model rollback need (ruling (names rd) (lookup rd) rd.known.none rd.known.top acc l (lines_of rest)) s s' r
  split acc l l' rest line behind s s' r some first e f q h =
      subst (λ (ls : List Line). Runs model rollback need (ruling (names rd) (lookup rd) rd.known.none rd.known.top acc l ls) s s' r) (sym first)
      (subst₃ e f q h)
    where
      subst₃ : line ≡ until_feed rest → behind ≡ past_feed rest → l' ≡ next_line l → Runs model rollback need (first-steps acc l' line behind) s s' r
          → Runs model rollback need (first-steps acc (next_line l) (until_feed rest) (past_feed rest)) s s' r
      subst₃ a b c x =
          subst (λ (y : ℕ). Runs model rollback need (first-steps acc y (until_feed rest) (past_feed rest)) s s' r) c
          (subst (λ (y : Bytes). Runs model rollback need (first-steps acc l' (until_feed rest) y) s s' r) b
          (subst (λ (y : Bytes). Runs model rollback need (first-steps acc l' y behind) s s' r) a x))

  pub goes_more : (acc l l' d : ℕ) (rest line behind : Bytes) (s s₁ : S) → 0 < length rest → FirstLine rest → line ≡ until_feed rest → behind ≡ past_feed rest → l' ≡ next_line l
      → GoesOn acc l rest s → ((b : Bytes) → Turned model rollback need (by_kind (kind_of line) (names rd) (lookup rd) rd.known.none rd.known.top acc l' (lined line b)) acc b s s₁ (Ok (Some d))) → GoesOn d l' behind s₁
  goes_more acc l l' d rest line behind s s₁ some first e f q go t s' r h =
      go s' r (split acc l l' rest line behind s s' r some first e f q (t behind (λ x. ruling (names rd) (lookup rd) rd.known.none rd.known.top x l' (lines_of behind)) s' r h))

  pub goes_last : (acc l l' : ℕ) (rest line behind : Bytes) (s s₁ : S) → 0 < length rest → FirstLine rest → line ≡ until_feed rest → behind ≡ past_feed rest → l' ≡ next_line l
      → GoesOn acc l rest s → ((b : Bytes) → Turned model rollback need (by_kind (kind_of line) (names rd) (lookup rd) rd.known.none rd.known.top acc l' (lined line b)) acc b s s₁ (Ok None))
      → Runs model rollback need (ruling (names rd) (lookup rd) rd.known.none rd.known.top rd.known.top l₀ (lines_of text)) s₀ s₁ (Ok (acc, behind))
  goes_last acc l l' rest line behind s s₁ some first e f q go t =
      go s₁ (Ok (acc, behind)) (split acc l l' rest line behind s s₁ (Ok (acc, behind)) some first e f q (t behind (λ x. ruling (names rd) (lookup rd) rd.known.none rd.known.top x l' (lines_of behind))))

-- a turn that is known
pub turned_by : {S : Type 0} (model : S → Model) (rollback : S → ℕ → S) (need : S → Op → ℕ) (rd : Evaluator Switches) (acc l : ℕ) (line : Bytes) (s s₁ : S) (t u : Option ℕ) → t ≡ u
    → ((b : Bytes) → Turned model rollback need (by_kind (kind_of line) (names rd) (lookup rd) rd.known.none rd.known.top acc l (lined line b)) acc b s s₁ (Ok t))
    → (b : Bytes) → Turned model rollback need (by_kind (kind_of line) (names rd) (lookup rd) rd.known.none rd.known.top acc l (lined line b)) acc b s s₁ (Ok u)
turned_by model rollback need rd acc l line s s₁ t u e h b =
    subst (λ (x : Option ℕ). Turned model rollback need (by_kind (kind_of line) (names rd) (lookup rd) rd.known.none rd.known.top acc l (lined line b)) acc b s s₁ (Ok x)) e (h b)

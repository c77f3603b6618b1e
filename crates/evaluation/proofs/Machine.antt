-- The steps of an expression ask what the expression asks.
use Rattle.std.proofs.Common.{◌≡◌, ℕ, Option, Result, refl, sym, ap, subst, ⊎_elim}
use mathlib.Core.Path.{fun_ext}
use Rattle.stores.specs.Model.{Model}
use Rattle.stores.specs.Outcome.{Op, both, either, less}
use Rattle.stores.specs.Steps.{Steps, done, fail, ask, test, then, Runs}
use Rattle.stores.specs.declared.fault.StoreFault.{StoreFault}
use Rattle.stores.proofs.Runs.{then_assoc, runs_then, runs_refused}
use Rattle.text.specs.Tokens.{Bytes}
use Rattle.expressions.specs.Grammar.{Expr, never, always, named, neg, conj, disj}
use Rattle.expressions.specs.Conditions.{Item, false-item, true-item, not-item, and_item, or-item, name_item}
use Rattle.stack_machine.specs.Works.{Run, Answers, After, Works}
use Rattle.evaluation.specs.Worked.{op, one, worked}

then_done : (p : Steps ℕ StoreFault) → then p done ≡ p
then_done (done a) = refl
then_done (fail f) = refl
then_done (ask o b next) = ap (ask o b) (fun_ext (λ c. then_done (next c)))
then_done (test a next) = ap (test a) (fun_ext (λ c. then_done (next c)))

module _ {S : Type 0} (model : S → Model) (rollback : S → ℕ → S) (need : S → Op → ℕ) (look : Bytes → Option ℕ) (none top : ℕ) where
  abbrev Asks : Steps ℕ StoreFault → Run S ℕ StoreFault
  Asks p s r t = Runs model rollback need p s t r

  abbrev Into : Run S ℕ StoreFault → Run S ℕ StoreFault → Type 0
  Into p q = (s : S) (r : Result ℕ StoreFault) (t : S) → p s r t → q s r t

  abbrev Gives : Item → ℕ → ℕ → Run S ℕ StoreFault
  Gives i a b = Asks (one i look none top a b)

  on_step : (i : Item) (a b : ℕ) (k : ℕ → Run S ℕ StoreFault) (next : ℕ → Steps ℕ StoreFault) → ((a : ℕ) → Into (k a) (Asks (next a))) → Into (After (Gives i a b) k) (Asks (then (one i look none top a b) next))
  on_step i a b k next go s r t h =
      let p = one i look none top a b in ⊎_elim
      (λ x. subst (λ (z : Result ℕ StoreFault). Asks (then p next) s z t) (sym x.2) (runs_refused model rollback need p next s t x.0 x.1))
      (λ x. runs_then model rollback need p next s x.1 t x.0 r x.2 (go x.0 x.1 r t x.3))
      h

  module _ (idle : ℕ) where
    -- what follows the expression goes on with its number
    works_on : (e : Expr) (k : ℕ → Run S ℕ StoreFault) (next : ℕ → Steps ℕ StoreFault) → ((a : ℕ) → Into (k a) (Asks (next a))) → Into (Works Gives idle e k) (Asks (then (worked e look none top) next))
    works_on never k next go s r t h = on_step false-item idle idle k next go s r t h
    works_on always k next go s r t h = on_step true-item idle idle k next go s r t h
    works_on (named x) k next go s r t h = on_step (name_item x) idle idle k next go s r t h
    works_on (neg e) k next go s r t h =
        rw then_assoc (works_on e (λ a. After (Gives not-item a idle) k) (λ a. then (op (less top a)) next) (λ a. on_step not-item a idle k next go) s r t h)
    works_on (conj e f) k next go s r t h =
        rw then_assoc (works_on e (λ a. Works Gives idle f (λ b. After (Gives and_item a b) k)) (λ a. then (then (worked f look none top) (λ b. op (both a b))) next) (λ a s r t h.
        rw then_assoc (works_on f (λ b. After (Gives and_item a b) k) (λ b. then (op (both a b)) next) (λ b. on_step and_item a b k next go) s r t h)) s r t h)
    works_on (disj e f) k next go s r t h =
        rw then_assoc (works_on e (λ a. Works Gives idle f (λ b. After (Gives or-item a b) k)) (λ a. then (then (worked f look none top) (λ b. op (either a b))) next) (λ a s r t h.
        rw then_assoc (works_on f (λ b. After (Gives or-item a b) k) (λ b. then (op (either a b)) next) (λ b. on_step or-item a b k next go) s r t h)) s r t h)

    pub works_runs : (e : Expr) → Into (Works Gives idle e Answers) (Asks (worked e look none top))
    works_runs e s r t h = rw then_done at (works_on e Answers done (λ a s r t h. h) s r t h)

-- What each operation of a store answers or refuses. Assumes nothing.
-- S is the type of a store; its ghost members are `model`, `need` and `rollback`.
--   Op                      an operation with its arguments
--   result m op             the set that an operation works out
--   refusal m need op       the first refusal due, by rising number, to an operation that needs so many places
--   Extends s s' k          k sets were appended, and taking them off again gives back the value s
--   Outcome s s' op r       accepted: no refusal was due, exactly the need was appended, and the number answered holds the result;
--                           refused: that fault was the one due, and the whole value is as it was
--   RollbackLaws            taking off leaves what a release leaves; in two steps it is taking off at once; taking nothing off changes nothing
--   CutBack s s' to         the value that a release to `to` leaves
--   Advanced s s'           extended by some number of sets
--   HoldsOutcome, FindOutcome   the two questions
use Rattle.std.specs.Prelude.{◌≡◌, ℕ, ◌-◌, ◌^◌, ◌<◌, ◌≤◌, Bool, cond, ◌&&◌, length, Some, None, Ok, Err, Option, Result, nat_lt}
use Rattle.stores.specs.Sets.{Set, ◌∩◌, ◌∪◌, ◌∖◌, on, LowestIf}
use Rattle.stores.specs.Model.{Model, set_at, kept, Appended, CutTo}
use Rattle.stores.specs.declared.fault.StoreFault.{StoreFault}
use Rattle.stores.specs.declared.fault.StoreFault.TheVariants.{NoSwitch, NoNumber, Full, NoConfiguration}

pub data Op : Type 0 where
  switch : ℕ → Op
  both : ℕ → ℕ → Op
  either : ℕ → ℕ → Op
  less : ℕ → ℕ → Op

abbrev pub result : Model → Op → Set
result m (switch i) = m.allowed ∩ on i
result m (both a b) = set_at m a ∩ set_at m b
result m (either a b) = set_at m a ∪ set_at m b
result m (less a b) = set_at m a ∖ set_at m b

-- the need is above what is left
abbrev pub full : Model → ℕ → Option StoreFault
full m need = cond (nat_lt (m.capacity - length m.held) need) (Some Full) None

abbrev pub numbers : Model → ℕ → ℕ → ℕ → Option StoreFault
numbers m a b need = cond (nat_lt a (length m.held) && nat_lt b (length m.held)) (full m need) (Some NoNumber)

abbrev pub refusal : Model → ℕ → Op → Option StoreFault
refusal m need (switch i) = cond (nat_lt i m.n) (full m need) (Some NoSwitch)
refusal m need (both a b) = numbers m a b need
refusal m need (either a b) = numbers m a b need
refusal m need (less a b) = numbers m a b need

pub record Extends {S : Type 0} (model : S → Model) (rollback : S → ℕ → S) (s s' : S) (more : ℕ) : Type 0 where
  pub appended : Appended (model s) (model s') more
  pub undo : rollback s' (length (model s).held) ≡ s

pub record RollbackLaws {S : Type 0} (model : S → Model) (rollback : S → ℕ → S) : Type 0 where
  pub cuts : (s : S) (k : ℕ) → CutTo (model s) (model (rollback s k)) k
  pub twice : (s : S) (j k : ℕ) → k ≤ j → rollback (rollback s j) k ≡ rollback s k
  pub nothing : (s : S) → rollback s (length (model s).held) ≡ s

pub record Accepted {S : Type 0} (model : S → Model) (rollback : S → ℕ → S) (s s' : S) (need : ℕ) (op : Op) (r : ℕ) : Type 0 where
  pub due : refusal (model s) need op ≡ None
  pub grown : Extends model rollback s s' need
  pub within : r < length (model s').held
  pub set : set_at (model s') r ≡ result (model s) op

pub record Refused {S : Type 0} (model : S → Model) (s s' : S) (need : ℕ) (op : Op) (f : StoreFault) : Type 0 where
  pub due : refusal (model s) need op ≡ Some f
  pub same : s' ≡ s

abbrev pub Outcome : {S : Type 0} → (S → Model) → (S → ℕ → S) → (S → Op → ℕ) → S → S → Op → Result ℕ StoreFault → Type 0
Outcome model rollback need s s' op (Ok r) = Accepted model rollback s s' (need s op) op r
Outcome model rollback need s s' op (Err f) = Refused model s s' (need s op) op f

pub record CutBack {S : Type 0} (model : S → Model) (rollback : S → ℕ → S) (s s' : S) (to : ℕ) : Type 0 where
  pub cut : CutTo (model s) (model s') to
  pub value : s' ≡ rollback s (kept (model s) to)

pub record Advanced {S : Type 0} (model : S → Model) (rollback : S → ℕ → S) (s s' : S) : Type 0 where
  pub more : ℕ
  pub grown : Extends model rollback s s' more

-- the refusal of a question about a number and a configuration
abbrev pub questioned : Model → ℕ → ℕ → Option StoreFault
questioned m a k = cond (nat_lt a (length m.held)) (cond (nat_lt k (2 ^ m.n)) None (Some NoConfiguration)) (Some NoNumber)

abbrev pub HoldsOutcome : Model → ℕ → ℕ → Result Bool StoreFault → Type 0
HoldsOutcome m a k (Ok b) = (a < length m.held) × (k < 2 ^ m.n) × (b ≡ set_at m a k)
HoldsOutcome m a k (Err f) = questioned m a k ≡ Some f

abbrev pub FindOutcome : Model → ℕ → Result (Option ℕ) StoreFault → Type 0
FindOutcome m a (Ok o) = (a < length m.held) × LowestIf (set_at m a) o
FindOutcome m a (Err f) = (length m.held ≤ a) × (f ≡ NoNumber)

-- Preparing a rule layer in a store: what it asks, and what holds of its result. Assumes nothing.
-- S is the type of the store; its ghost members are `model`, `need` and `rollback`. R is the number of what the layer is to allow.
--   Numbers                     R, and for each switch the number of those of R with it on
--   switching left i R before   for `left` switches from i upward, switch(i) and both(R, that); answers R, and the numbers of the latter after `before`
--   preparing n top a           R = both(top, a), refused where R is empty, then the n switches from 0
--   answered n r                the result r of preparing, in the form in which these steps answer
--   Measured m r                the floor prepared is the number of sets held
--   WorksOut s s' top a r       these steps were asked, and answer r; the store was only extended, even if they are refused
--   Attempts s s' a r           these steps were asked, from a number `top` of the allowed set, and answer r; if they are refused, the store is as it was
--   PrepareAccepted s s' a p    the store was only extended; the set of p's top is what is allowed of set a; p fits the store, and its floor is
--                               the number of sets held
--   PrepareRefused s s' a f     the store is as it was; where the rules are the reason, nothing of set a is allowed
--   Prepares s s' a r           one or the other, by the result r
use Rattle.std.specs.Prelude.{◌≡◌, ℕ, zero, suc, ◌+◌, ◌<◌, cond, List, [], ◌∷◌, ◌++◌, take, Ok, Err, Result}
use Rattle.stores.specs.Sets.{◌∩◌, Empty}
use Rattle.stores.specs.Model.{Model, set_at, size}
use Rattle.stores.specs.Outcome.{Op, switch, both, Advanced}
use Rattle.stores.specs.Steps.{Steps, done, fail, ask, test, Runs, Attempt}
use Rattle.layers.specs.Fitting.{Fits}
use Rattle.layers.specs.declared.fault.LayerFault.{LayerFault}
use Rattle.layers.specs.declared.fault.LayerFault.TheVariants.{Store, NoneAllowed}
use Rattle.layers.specs.declared.preparation.Prepared.{Prepared}

abbrev pub Numbers : Type 0
Numbers = ℕ × List ℕ

abbrev pub switching : ℕ → ℕ → ℕ → List ℕ → Steps Numbers LayerFault
switching zero i R before = done (R, before)
switching (suc left) i R before = ask (switch i) Store (λ x. ask (both R x) Store (λ y. switching left (i + 1) R (before ++ y ∷ [])))

abbrev pub preparing : ℕ → ℕ → ℕ → Steps Numbers LayerFault
preparing n top a = ask (both top a) Store (λ R. test R (λ is_empty. cond is_empty (fail NoneAllowed) (switching n 0 R [])))

abbrev pub answered : ℕ → Result Prepared LayerFault → Result Numbers LayerFault
answered n (Ok p) = Ok (p.top, take n p.switches)
answered n (Err f) = Err f

abbrev pub Measured : Model → Result Prepared LayerFault → Type 0
Measured m (Ok p) = p.floor ≡ size m
Measured m (Err f) = Unit {0}

pub record WorksOut {S : Type 0} (model : S → Model) (rollback : S → ℕ → S) (need : S → Op → ℕ) (s s' : S) (top a : ℕ) (r : Result Prepared LayerFault) : Type 0 where
  pub advanced : Advanced model rollback s s'
  pub runs : Runs model rollback need (preparing (model s).n top a) s s' (answered (model s).n r)
  pub floor : Measured (model s') r

pub record Attempts {S : Type 0} (model : S → Model) (rollback : S → ℕ → S) (need : S → Op → ℕ) (s s' : S) (a : ℕ) (r : Result Prepared LayerFault) : Type 0 where
  pub top : ℕ
  pub low : top < (model s).floor
  pub all : set_at (model s) top ≡ (model s).allowed
  pub steps : Attempt model rollback need (preparing (model s).n top a) s s' (answered (model s).n r)

pub record PrepareAccepted {S : Type 0} (model : S → Model) (rollback : S → ℕ → S) (s s' : S) (a : ℕ) (p : Prepared) : Type 0 where
  pub advanced : Advanced model rollback s s'
  pub set : set_at (model s') p.top ≡ (model s).allowed ∩ set_at (model s) a
  pub fits : Fits (model s') p
  pub floor : p.floor ≡ size (model s')

pub record PrepareRefused {S : Type 0} (model : S → Model) (s s' : S) (a : ℕ) (f : LayerFault) : Type 0 where
  pub same : s' ≡ s
  pub none : f ≡ NoneAllowed → Empty ((model s).allowed ∩ set_at (model s) a)

abbrev pub Prepares : {S : Type 0} → (S → Model) → (S → ℕ → S) → S → S → ℕ → Result Prepared LayerFault → Type 0
Prepares model rollback s s' a (Ok p) = PrepareAccepted model rollback s s' a p
Prepares model rollback s s' a (Err f) = PrepareRefused model s s' a f

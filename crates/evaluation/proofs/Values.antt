-- What an accepted run of an expression answers.
use Rattle.std.proofs.Common.{◌≡◌, ℕ, Bool, true, not, ◌&&◌, ◌||◌, IfOk, Some, None, Ok, Err, Option, Result, sym, ◌∙◌, subst, ap₂}
use Rattle.stores.specs.Sets.{Set, empty}
use Rattle.stores.specs.Model.{Model, set_at, Appended}
use Rattle.stores.specs.Outcome.{Op, both, either, less, Accepted}
use Rattle.stores.specs.Steps.{then, Runs}
use Rattle.stores.specs.declared.fault.StoreFault.{StoreFault}
use Rattle.stores.proofs.Runs.{ok_same, runs_split, runs_appended, asked_accepted}
use Rattle.text.specs.Tokens.{Bytes}
use Rattle.expressions.specs.Grammar.{Expr, never, always, named, neg, conj, disj}
use Rattle.evaluation.specs.Worked.{entry_or, op, worked}
use Rattle.evaluation.specs.Meaning.{Denotes, AgreesOn, Within, Entry, Valued}
use Rattle.evaluation.proofs.Later.{denotes_later, agrees_later, within_later, named_later, denotes_agrees, agrees_same}

agrees_and : {m m' : Model} {T : Set} {a b c : ℕ} {f g : Set} → AgreesOn m T a f → AgreesOn m T b g → Denotes m' c (λ k. set_at m a k && set_at m b k) → AgreesOn m' T c (λ k. f k && g k)
agrees_and p q h = record { within = h.within; is = λ k t. h.is k ∙ ap₂ (λ (x y : Bool). x && y) (p.is k t) (q.is k t) }

agrees_or : {m m' : Model} {T : Set} {a b c : ℕ} {f g : Set} → AgreesOn m T a f → AgreesOn m T b g → Denotes m' c (λ k. set_at m a k || set_at m b k) → AgreesOn m' T c (λ k. f k || g k)
agrees_or p q h = record { within = h.within; is = λ k t. h.is k ∙ ap₂ (λ (x y : Bool). x || y) (p.is k t) (q.is k t) }

agrees_less : {m m' : Model} {T : Set} {a b c : ℕ} {f g : Set} → AgreesOn m T a f → AgreesOn m T b g → Denotes m' c (λ k. set_at m a k && not (set_at m b k)) → AgreesOn m' T c (λ k. f k && not (g k))
agrees_less p q h = record { within = h.within; is = λ k t. h.is k ∙ ap₂ (λ (x y : Bool). x && not y) (p.is k t) (q.is k t) }

top_later : {m m' : Model} {p c : ℕ} (g : Appended m m' p) → Denotes m c m.allowed → Denotes m' c m'.allowed
top_later {m} {m'} {p} {c} g h = subst (λ (A : Set). Denotes m' c A) (sym g.same.allowed) (denotes_later g h)

agrees_all : {m : Model} {T : Set} {c : ℕ} → Denotes m c m.allowed → Within m T → AgreesOn m T c (λ k. true)
agrees_all i w = agrees_same (λ k t. w k t) (denotes_agrees i)

agrees_entry : (m : Model) (T : Set) (o : Option ℕ) (none : ℕ) (f : Set) → Denotes m none empty → Entry m T o f → AgreesOn m T (entry_or o none) f
agrees_entry m T None none f i h = agrees_same (λ k t. sym (h k t)) (denotes_agrees i)
agrees_entry m T (Some c) none f i h = h

module _ {S : Type 0} (model : S → Model) (rollback : S → ℕ → S) (need : S → Op → ℕ) where
  denotes_op : (o : Op) (s s' : S) (c : ℕ) → Runs model rollback need (op o) s s' (Ok c) → Denotes (model s') c (Rattle.stores.specs.Outcome.result (model s) o)
  denotes_op o s s' c h = let a = asked_accepted model rollback need o (λ (f : StoreFault). f) s s' c h in record { within = a.within; is = λ k i. a.set i k }

  at_done : (look : Bytes → Option ℕ) (e : Expr) (s s' : S) (c d : ℕ) → (◌≡◌ {A = Result ℕ StoreFault} (Ok c) (Ok d)) × (s' ≡ s) → Valued (model s) (model s) look e d → Valued (model s) (model s') look e c
  at_done look e s s' c d h v =
      subst (λ (x : ℕ). Valued (model s) (model s') look e x) (sym (ok_same {F = StoreFault} h.0)) (subst (λ (z : S). Valued (model s) (model z) look e d) (sym h.1) v)

  module _ (look : Bytes → Option ℕ) (none top : ℕ) where
    pub worked_valued : (e : Expr) (s s' : S) (c : ℕ) → Denotes (model s) none empty → Denotes (model s) top (model s).allowed
        → Runs model rollback need (worked e look none top) s s' (Ok c) → Valued (model s) (model s') look e c
    worked_valued never s s' c zn tp h = at_done look never s s' c none h (λ T D w n. denotes_agrees zn)
    worked_valued always s s' c zn tp h = at_done look always s s' c top h (λ T D w n. agrees_all tp w)
    worked_valued (named x) s s' c zn tp h = at_done look (named x) s s' c (entry_or (look x) none) h (λ T D w n. agrees_entry (model s) T (look x) none (λ k. D k x) zn (n x))
    worked_valued (neg e) s s' c zn tp h =
        let r = runs_split model rollback need (worked e look none top) (λ x. op (less top x)) s s' c h in
        let v = worked_valued e s r.1 r.0 zn tp r.2 in
        let g = (runs_appended model rollback need (worked e look none top) s r.1 r.0 r.2).1 in
        λ T D w n. agrees_less (agrees_later g (agrees_all tp w)) (v T D w n) (denotes_op (less top r.0) r.1 s' c r.3)
    worked_valued (conj e f) s s' c zn tp h =
        let r = runs_split model rollback need (worked e look none top) (λ x. then (worked f look none top) (λ y. op (both x y))) s s' c h in
        let g = (runs_appended model rollback need (worked e look none top) s r.1 r.0 r.2).1 in
        let r₂ = runs_split model rollback need (worked f look none top) (λ y. op (both r.0 y)) r.1 s' c r.3 in
        let g₂ = (runs_appended model rollback need (worked f look none top) r.1 r₂.1 r₂.0 r₂.2).1 in
        let v = worked_valued e s r.1 r.0 zn tp r.2 in
        let v₂ = worked_valued f r.1 r₂.1 r₂.0 (denotes_later g zn) (top_later g tp) r₂.2 in
        λ T D w n. agrees_and (agrees_later g₂ (v T D w n)) (v₂ T D (within_later g w) (named_later g T look D n)) (denotes_op (both r.0 r₂.0) r₂.1 s' c r₂.3)
    worked_valued (disj e f) s s' c zn tp h =
        let r = runs_split model rollback need (worked e look none top) (λ x. then (worked f look none top) (λ y. op (either x y))) s s' c h in
        let g = (runs_appended model rollback need (worked e look none top) s r.1 r.0 r.2).1 in
        let r₂ = runs_split model rollback need (worked f look none top) (λ y. op (either r.0 y)) r.1 s' c r.3 in
        let g₂ = (runs_appended model rollback need (worked f look none top) r.1 r₂.1 r₂.0 r₂.2).1 in
        let v = worked_valued e s r.1 r.0 zn tp r.2 in
        let v₂ = worked_valued f r.1 r₂.1 r₂.0 (denotes_later g zn) (top_later g tp) r₂.2 in
        λ T D w n. agrees_or (agrees_later g₂ (v T D w n)) (v₂ T D (within_later g w) (named_later g T look D n)) (denotes_op (either r.0 r₂.0) r₂.1 s' c r₂.3)

    pub worked_made : (e : Expr) (s s' : S) (r : Result ℕ StoreFault) → Denotes (model s) none empty → Denotes (model s) top (model s).allowed
        → Runs model rollback need (worked e look none top) s s' r → IfOk r (Valued (model s) (model s') look e)
    worked_made e s s' (Ok c) zn tp h = worked_valued e s s' c zn tp h
    worked_made e s s' (Err f) zn tp h = tt

-- What the rules that a run has read allow.
use Rattle.std.proofs.Common.{◌≡◌, ℕ, zero, suc, ◌+◌, ◌<◌, ◌≤◌, Bool, true, false, cond, ◌&&◌, ltb, List, [], ◌∷◌, ◌++◌, length, get_or, Some, None, Ok, Err, Option, Result, sym, refl, ap, ◌∙◌, subst, ⊎_elim, arith, length-append, lt-ltb}
use Rattle.std.proofs.lemmas.Bool.{cases_lt}
use Rattle.std.specs.Str.{bytes_eq}
use lib.ListN.{get_or-append}
use lib.Seq.{get_or-append_seam}
use Rattle.faults.specs.declared.Refusal.{Refusal}
use Rattle.stores.specs.Sets.{Set, empty, ◌∩◌, on}
use Rattle.stores.specs.Model.{Model, set_at, Appended}
use Rattle.stores.specs.Outcome.{Op, switch, both}
use Rattle.stores.specs.Steps.{Steps, fail, ask, then, blamed, Runs}
use Rattle.stores.specs.Faults.{described}
use Rattle.stores.proofs.Models.{appended_none, appended_trans}
use Rattle.stores.proofs.Runs.{ok_same, ok_not_err, runs_split, runs_appended, runs_unblamed}
use Rattle.lines.specs.Lines.{Line, lines_of}
use Rattle.names.specs.Names.{index_from, index_of}
use Rattle.text.specs.Tokens.{Bytes}
use Rattle.expressions.specs.Grammar.{Expr}
use Rattle.expressions.specs.Truth.{Env, truth}
use Rattle.expressions.specs.Conditions.{condition_at, only_name, nothing_at}
use Rattle.expressions.specs.Placed.{on_line, read_in, unless}
use Rattle.evaluation.specs.Worked.{worked}
use Rattle.evaluation.specs.Meaning.{Denotes, Entry, Named}
use Rattle.evaluation.proofs.Later.{denotes_later, named_later}
use Rattle.evaluation.proofs.Values.{worked_valued}
use Rattle.rulelines.specs.declared.kind.LineKind.{LineKind}
use Rattle.rulelines.specs.declared.kind.LineKind.TheVariants.{Blank, Switch, Rule, Begin, Foreign}
use Rattle.rulelines.specs.Faults.{declarations}
use Rattle.rulelines.specs.Kinds.{kind_of, next_line}
use Rattle.rules.specs.Ruled.{Looked, Answer, number_at, entry_of, known, switching, rule, ended, misplaced, by_kind, ruling, ruled}
use Rattle.rules.specs.Allowed.{is_on, defines, also, rules_by, rules_in, satisfies, allowed_by}

-- what a run of rules rests on: the constants and the entries stand for the defined names of every allowed configuration
pub record Context (m : Model) (A : Set) (look : Looked) (D : ℕ → Env) (none top : ℕ) : Type 0 where
  pub same : m.allowed ≡ A
  pub none_is : Denotes m none empty
  pub top_is : Denotes m top A
  pub names : Named m A look D

context_later : {m m' : Model} {more : ℕ} {A : Set} {look : Looked} {D : ℕ → Env} {none top : ℕ} → Appended m m' more → Context m A look D none top → Context m' A look D none top
context_later {A = A} {look = look} {D = D} g c =
    record {
      same = g.same.allowed ∙ c.same;
      none_is = denotes_later g c.none_is;
      top_is = denotes_later g c.top_is;
      names = named_later g A look D c.names;
    }

-- a set within A, and what is true in A
meets : (r t a s : Bool) → (r ≡ true → t ≡ s) → (r && t) ≡ (r && s)
meets true t a s h = h refl
meets false t a s h = refl

and_assoc : (x y z : Bool) → ((x && y) && z) ≡ (x && (y && z))
and_assoc true y z = refl
and_assoc false y z = refl

and_true : (x : Bool) → x ≡ (x && true)
and_true true = refl
and_true false = refl

and_left : (x y : Bool) → (x && y) ≡ true → x ≡ true
and_left true y h = refl
and_left false y h = h

module _ {S : Type 0} (model : S → Model) (rollback : S → ℕ → S) (need : S → Op → ℕ) where
  module _ (A : Set) (names : List Bytes) (look : Looked) (D : ℕ → Env) (none top : ℕ) where
    -- what the lines from here on allow of R, where they are read to their end
    abbrev Reads : (ℕ → Steps Answer Refusal) → List Expr → S → Answer → Type 0
    Reads next es s' a =
        (d : ℕ) (s : S) (R : Set) → Context (model s) A look D none top → Denotes (model s) d R → ((k : ℕ) → R k ≡ true → A k ≡ true)
        → Runs model rollback need (next d) s s' (Ok a) → Denotes (model s') a.0 (λ k. R k && satisfies es (D k))

    rule_law : (l : ℕ) (next : ℕ → Steps Answer Refusal) (es : List Expr) (acc : ℕ) (e : Expr) (b : Bool) (s s' : S) (a : Answer) (R : Set)
        → Context (model s) A look D none top → Denotes (model s) acc R → ((k : ℕ) → R k ≡ true → A k ≡ true) → Reads next es s' a
        → Runs model rollback need (cond b (then (blamed (λ f. described f l) (worked e look none top)) (λ c. ask (both acc c) (λ f. described f l) next)) (fail (declarations l))) s s' (Ok a)
        → Denotes (model s') a.0 (λ k. R k && satisfies (e ∷ es) (D k))
    rule_law l next es acc e false s s' a R c da sub reads h = absurd (ok_not_err {F = Refusal} h.0)
    rule_law l next es acc e true s s' a R c da sub reads h =
        let r = runs_split model rollback need (blamed (λ f. described f l) (worked e look none top)) (λ c. ask (both acc c) (λ f. described f l) next) s s' a h in
        let w = runs_unblamed model rollback need (λ f. described f l) (worked e look none top) s r.1 r.0 r.2 in
        let g = (runs_appended model rollback need (worked e look none top) s r.1 r.0 w).1 in
        let top-all : Denotes (model s) top (model s).allowed = subst (λ (x : Set). Denotes (model s) top x) (sym c.same) c.top_is in
        let v = worked_valued model rollback need look none top e s r.1 r.0 c.none_is top-all w A D (λ k t. (λ i. c.same i k) ∙ t) c.names in
        let da₁ = denotes_later g da in
        ⊎_elim
        (λ f. absurd (ok_not_err {F = Refusal} f.2))
        (λ q.
        let g₂ = q.2.grown.appended in
        let new : Denotes (model q.1) q.0 (λ k. R k && truth e (D k)) = record {
          within = q.2.within;
          is = λ k. (λ i. q.2.set i k) ∙ ap (λ (x : Bool). x && set_at (model r.1) r.0 k) (da₁.is k) ∙ meets (R k) (set_at (model r.1) r.0 k) (A k) (truth e (D k)) (λ t. v.is k (sub k t));
        } in
        let last = reads q.0 q.1 (λ k. R k && truth e (D k)) (context_later g₂ (context_later g c)) new (λ k t. sub k (and_left (R k) (truth e (D k)) t)) q.3 in
        record { within = last.within; is = λ k. last.is k ∙ and_assoc (R k) (truth e (D k)) (satisfies es (D k)) })
        r.3

    ended_law : (acc : ℕ) (behind : Bytes) (o : Result (Unit {0}) Refusal) (s s' : S) (a : Answer) (R : Set) → Denotes (model s) acc R
        → Runs model rollback need (ended acc behind o) s s' (Ok a) → Denotes (model s') a.0 (λ k. R k && true)
    ended_law acc behind (Err f) s s' a R da h = absurd (ok_not_err {F = Refusal} h.0)
    ended_law acc behind (Ok u) s s' a R da h =
        let held = subst (λ (z : S). Denotes (model z) acc R) (sym h.1) da in
        let given = subst (λ (x : Answer). Denotes (model s') x.0 R) (sym (ok_same {F = Refusal} h.0)) held in
        record { within = given.within; is = λ k. given.is k ∙ and_true (R k) }

    misplaced_fails : {B : Type 0} (l : ℕ) (r : Result B Refusal) (s s' : S) (a : Answer) → Runs model rollback need (misplaced l r) s s' (Ok a) → ⊥
    misplaced_fails l (Ok x) s s' a h = ok_not_err {F = Refusal} h.0
    misplaced_fails l (Err f) s s' a h = ok_not_err {F = Refusal} h.0

    rule_read : (l : ℕ) (next : ℕ → Steps Answer Refusal) (es : List Expr) (acc : ℕ) (b : Bool) (r : Result Expr (ℕ × ℕ)) (t : Refusal) (s s' : S) (a : Answer) (R : Set)
        → Context (model s) A look D none top → Denotes (model s) acc R → ((k : ℕ) → R k ≡ true → A k ≡ true) → Reads next es s' a
        → Runs model rollback need (rule names look none top acc l next (cond b (Err t) (on_line l r))) s s' (Ok a) → Denotes (model s') a.0 (λ k. R k && satisfies (also r es) (D k))
    rule_read l next es acc true r t s s' a R c da sub reads h = absurd (ok_not_err {F = Refusal} h.0)
    rule_read l next es acc false (Ok e) t s s' a R c da sub reads h = rule_law l next es acc e (known names e) s s' a R c da sub reads h
    rule_read l next es acc false (Err f) t s s' a R c da sub reads h = absurd (ok_not_err {F = Refusal} h.0)

    kind_law : (kind : LineKind) (x : Line) (l : ℕ) (next : ℕ → Steps Answer Refusal) (es : List Expr) (acc : ℕ) (s s' : S) (a : Answer) (R : Set)
        → Context (model s) A look D none top → Denotes (model s) acc R → ((k : ℕ) → R k ≡ true → A k ≡ true) → Reads next es s' a
        → Runs model rollback need (by_kind kind names look none top acc l x next) s s' (Ok a) → Denotes (model s') a.0 (λ k. R k && satisfies (rules_by kind x.content es) (D k))
    kind_law Blank x l next es acc s s' a R c da sub reads h = reads acc s R c da sub h
    kind_law (Rule from) x l next es acc s s' a R c da sub reads h =
        rule_read l next es acc (ltb 255 (length x.content)) (condition_at false x.content from) _ s s' a R c da sub reads h
    kind_law (Begin from) x l next es acc s s' a R c da sub reads h =
        ended_law acc x.behind (read_in x.content l (unless (nothing_at false x.content from))) s s' a R da h
    kind_law (Switch from) x l next es acc s s' a R c da sub reads h = absurd (misplaced_fails l (read_in x.content l (only_name false x.content from)) s s' a h)
    kind_law Foreign x l next es acc s s' a R c da sub reads h = absurd (misplaced_fails l (read_in x.content l (unless None)) s s' a h)

    pub ruling_law : (lines : List Line) (l acc : ℕ) (s s' : S) (a : Answer) (R : Set)
        → Context (model s) A look D none top → Denotes (model s) acc R → ((k : ℕ) → R k ≡ true → A k ≡ true)
        → Runs model rollback need (ruling names look none top acc l lines) s s' (Ok a) → Denotes (model s') a.0 (λ k. R k && satisfies (rules_in lines) (D k))
    ruling_law [] l acc s s' a R c da sub h = absurd (ok_not_err {F = Refusal} h.0)
    ruling_law (x ∷ xs) l acc s s' a R c da sub h =
        kind_law (kind_of x.content) x (next_line l) (λ d. ruling names look none top d (next_line l) xs) (rules_in xs) acc s s' a R c da sub
        (λ d s₁ R₁ c₁ d₁ sub₁ h₁. ruling_law xs (next_line l) d s₁ s' a R₁ c₁ d₁ sub₁ h₁) h

-- the numbers ns hold the first switches
pub record Numbers (m : Model) (A : Set) (ns : List ℕ) : Type 0 where
  pub same : m.allowed ≡ A
  pub sets : (i : ℕ) → i < length ns → Denotes m (get_or ns i 0) (A ∩ on i)

numbers_more : {m m' : Model} {A : Set} {ns : List ℕ} (more i c : ℕ) → Appended m m' more → Numbers m A ns → i ≡ length ns → Denotes m' c (m.allowed ∩ on i) → Numbers m' A (ns ++ c ∷ [])
numbers_more {m} {m'} {A} {ns} more i c g n e d =
    record {
      same = g.same.allowed ∙ n.same;
      sets = λ j h. ⊎_elim
          (λ (lt : j < length ns). subst (λ (x : ℕ). Denotes m' x (A ∩ on j)) (sym (get_or-append ns (c ∷ []) 0 j lt)) (denotes_later g (n.sets j lt)))
          (λ (ge : length ns ≤ j).
          let is : length ns ≡ j = omega (arith, h, ge, length-append ns (c ∷ [])) in
          subst (λ (q : ℕ). Denotes m' (get_or (ns ++ c ∷ []) q 0) (A ∩ on q)) is
          (subst (λ (x : ℕ). Denotes m' x (A ∩ on (length ns))) (sym (get_or-append_seam ns c [] 0))
          (subst (λ (q : ℕ). Denotes m' c (A ∩ on q)) e (subst (λ (x : Set). Denotes m' c (x ∩ on i)) n.same d))))
          (cases_lt j (length ns));
    }

none_some : (i : ℕ) → ◌≡◌ {A = Option ℕ} None (Some i) → ⊥
none_some i e = cc

-- a place found is within the list
index_within : (ns : List Bytes) (x : Bytes) (j i : ℕ) → index_from j ns x ≡ Some i → i < j + length ns
index_within [] x j i e = absurd (none_some i e)
index_within (n ∷ ns) x j i e = by_test (bytes_eq n x) e (λ q. index_within ns x (j + 1) i q)
  where
    by_test : (b : Bool) → cond b (Some j) (index_from (j + 1) ns x) ≡ Some i → (index_from (j + 1) ns x ≡ Some i → i < j + 1 + length ns) → i < j + suc (length ns)
    by_test true q later = let z : j ≡ i = cc in omega arith
    by_test false q later = omega (arith, later q)

-- the entries of the declared names stand for the switches
entries_named : (m : Model) (A : Set) (names : List Bytes) (ns : List ℕ) → length names ≡ length ns → Numbers m A ns → Named m A (entry_of names ns) (defines names)
entries_named m A names ns e n x = by_index (index_of names x) (λ i q. index_within names x 0 i q)
  where
    by_index : (o : Option ℕ) → ((i : ℕ) → o ≡ Some i → i < 0 + length names) → Entry m A (number_at ns o) (λ k. is_on o k)
    by_index None h = λ k t. refl
    by_index (Some i) h =
        let lt : i < length ns = omega (arith, h i refl, e) in
        subst (λ (b : Bool). Entry m A (cond b (Some (get_or ns i 0)) None) (on i)) (sym (lt-ltb i (length ns) lt))
        (record { within = (n.sets i lt).within; is = λ k t. (n.sets i lt).is k ∙ ap (λ (b : Bool). b && on i k) t })

module _ {S : Type 0} (model : S → Model) (rollback : S → ℕ → S) (need : S → Op → ℕ) where
  switching_law : {B : Type 0} (A : Set) (n i : ℕ) (ns : List ℕ) (k : List ℕ → Steps B Refusal) (s s' : S) (a : B) → Numbers (model s) A ns → i ≡ length ns
      → Runs model rollback need (switching n i ns k) s s' (Ok a)
      → (ms : List ℕ) × (s₁ : S) × (more : ℕ) × Appended (model s) (model s₁) more × Numbers (model s₁) A ms × (length ms ≡ i + n) × Runs model rollback need (k ms) s₁ s' (Ok a)
  switching_law A zero i ns k s s' a N e h = (ns, s, 0, appended_none (model s), N, omega (arith, e), h)
  switching_law A (suc n) i ns k s s' a N e h = ⊎_elim
      (λ f. absurd (ok_not_err {F = Refusal} f.2))
      (λ q.
      let g = q.2.grown.appended in
      let d : Denotes (model q.1) q.0 ((model s).allowed ∩ on i) = record { within = q.2.within; is = λ j t. q.2.set t j } in
      let r = switching_law A n (i + 1) (ns ++ q.0 ∷ []) k q.1 s' a (numbers_more _ i q.0 g N e d) (omega (arith, e, length-append ns (q.0 ∷ []))) q.3 in
      (r.0, r.1, need s (switch i) + r.2, appended_trans g r.3, r.4, omega (arith, r.5), r.6))
      h

  -- an accepted reading answers exactly the allowed configurations that satisfy every rule
  pub ruled_law : (names : List Bytes) (n none top l : ℕ) (text : Bytes) (s s' : S) (a : Answer) → length names ≡ n
      → Denotes (model s) none empty → Denotes (model s) top (model s).allowed → Runs model rollback need (ruled names n none top l text) s s' (Ok a)
      → Denotes (model s') a.0 (allowed_by (model s).allowed names (lines_of text))
  ruled_law names n none top l text s s' a e zn tp h =
      let A = (model s).allowed in
      let k = λ (ns : List ℕ). ruling names (entry_of names ns) none top top l (lines_of text) in
      let r = switching_law A n 0 [] k s s' a (record { same = refl; sets = λ i b. absurd (omega (arith, b)) }) refl h in
      let c : Context (model r.1) A (entry_of names r.0) (defines names) none top = record {
        same = r.4.same;
        none_is = denotes_later r.3 zn;
        top_is = denotes_later r.3 tp;
        names = entries_named (model r.1) A names r.0 (omega (arith, e, r.5)) r.4;
      } in
      ruling_law model rollback need A names (entry_of names r.0) (defines names) none top (lines_of text) l top r.1 s' a A c (denotes_later r.3 tp) (λ k t. t) r.6

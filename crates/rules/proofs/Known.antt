-- Which names are declared.
use Rattle.std.proofs.Common.{◌≡◌, Bool, true, false, ◌&&◌, List, [], ◌∷◌, ◌++◌, sym, refl, ap, ◌∙◌, ap₂}
use Rattle.std.specs.List.{list_all}
use Rattle.std.proofs.lemmas.List.Folds.{list_all-map}
use Rattle.text.specs.Tokens.{Bytes}
use Rattle.expressions.specs.Grammar.{Expr, never, always, named, neg, conj, disj}
use Rattle.expressions.specs.Conditions.{Item, not-item, and_item, or-item, item, items, postfix}
use Rattle.expressions.specs.declared.condition.Step.{Step}
use Rattle.expressions.specs.declared.condition.Condition.{Condition}
use Rattle.evaluation.specs.Worked.{steps_of}
use Rattle.rules.specs.Ruled.{known}
use Rattle.rules.specs.Turns.{known_item, all_known}

known_all : (ns : List Bytes) (ss : List Step) → all_known ns (items ss) ≡ list_all (λ x. known_item ns (item x)) ss
known_all ns ss = list_all-map (known_item ns) item ss

and_assoc : (x y z : Bool) → ((x && y) && z) ≡ (x && (y && z))
and_assoc true y z = refl
and_assoc false y z = refl

and_true : (x : Bool) → (x && true) ≡ x
and_true true = refl
and_true false = refl

known_append : (ns : List Bytes) (a b : List Item) → all_known ns (a ++ b) ≡ (all_known ns a && all_known ns b)
known_append ns [] b = refl
known_append ns (i ∷ a) b = ap (λ (t : Bool). known_item ns i && t) (known_append ns a b) ∙ sym (and_assoc (known_item ns i) (all_known ns a) (all_known ns b))

-- the names of the steps are the names of the expression
pub known_postfix : (ns : List Bytes) (e : Expr) → all_known ns (postfix e) ≡ known ns e
known_postfix ns never = refl
known_postfix ns always = refl
known_postfix ns (named x) = and_true _
known_postfix ns (neg e) = known_append ns (postfix e) (not-item ∷ []) ∙ and_true (all_known ns (postfix e)) ∙ known_postfix ns e
known_postfix ns (conj e f) =
    known_append ns (postfix e) (postfix f ++ and_item ∷ []) ∙ ap₂ (λ (x y : Bool). x && y) (known_postfix ns e) (known_append ns (postfix f) (and_item ∷ []) ∙ and_true (all_known ns (postfix f)) ∙ known_postfix ns f)
known_postfix ns (disj e f) =
    known_append ns (postfix e) (postfix f ++ or-item ∷ []) ∙ ap₂ (λ (x y : Bool). x && y) (known_postfix ns e) (known_append ns (postfix f) (or-item ∷ []) ∙ and_true (all_known ns (postfix f)) ∙ known_postfix ns f)

-- a condition that was read
pub known_read : (ns : List Bytes) (c : Condition) (ss : List Step) (e : Expr) (b : Bool) → steps_of c ≡ postfix e → ss ≡ c.steps.items → b ≡ list_all (λ x. known_item ns (item x)) ss → known ns e ≡ b
known_read ns c ss e b r s h = sym (h ∙ sym (known_all ns ss) ∙ ap (λ (y : List Step). all_known ns (items y)) s ∙ ap (all_known ns) r ∙ known_postfix ns e)

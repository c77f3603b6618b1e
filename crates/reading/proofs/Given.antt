-- What holds of every line that is classified: its bytes are those of the line, and an `if` has a condition.
use Rattle.std.proofs.Common.{◌≡◌, ℕ, ◌-◌, Bool, true, false, ◌&&◌, ◌||◌, eqb, ltb, length, Some, None, Ok, Err, Option, Result, refl, subst}
use Rattle.text.specs.Tokens.{Bytes}
use Rattle.expressions.specs.Grammar.{Expr}
use Rattle.expressions.specs.Faults.{described}
use Rattle.expressions.specs.declared.fault.ExpressionFault.TheVariants.{LineTooLong}
use Rattle.expressions.specs.Placed.{on_line, unless}
use Rattle.expressions.specs.Conditions.{only_name, first_name, nothing_at}
use Rattle.scanning.specs.Modes.{open_after}
use Rattle.directives.specs.Gaps.{front}
use Rattle.directives.specs.Directives.{past, hash, alone, named, directive_in, conditional, final}
use Rattle.directives.specs.declared.Directive.{Directive}
use Rattle.directives.specs.declared.Directive.TheVariants.{If, Elif, Else, Endif, Define, Undef}
use Rattle.sources.specs.Lines.{content}
use Rattle.sources.specs.Faults.{of_lines}
use Rattle.sources.specs.Classified.{Line, name, if, elif, endif, given, otherwise, raw_of, refuse, changed, condition_of, made, kind, classified}
use Rattle.conditionals.specs.Answers.{Proper}

abbrev pub Given : Bytes → Line → Type 0
Given l x = Proper x × (raw_of x ≡ l)

-- what holds of the line that is read, if one is
abbrev Holds : {F : Type 0} → Bytes → Result Line F → Type 0
Holds l (Ok x) = Given l x
Holds l (Err f) = Unit {0}

holds_changed : {A F : Type 0} (l : Bytes) (f : A → Line) → ((a : A) → Given l (f a)) → (r : Result A F) → Holds l (changed f r)
holds_changed l f h (Ok a) = h a
holds_changed l f h (Err e) = tt

holds_refuse : {F : Type 0} (l : Bytes) (b : Bool) (f : F) (r : Result Line F) → Holds l r → Holds l (refuse b f r)
holds_refuse l true f r h = tt
holds_refuse l false f r h = h

holds_on : (l : Bytes) (n : ℕ) (r : Result Line (ℕ × ℕ)) → Holds l r → Holds l (on_line n r)
holds_on l n (Ok a) h = h
holds_on l n (Err f) h = tt

made_given : (d : Directive) (l s : Bytes) (k : ℕ) → Holds l (made d l s k)
made_given (If f) l s k = holds_changed l (λ (e : Expr). if (record { el = false; raw = l; when = given e })) (λ e. (refl, refl)) (condition_of f s k)
made_given (Elif f) l s k = holds_changed l (λ (e : Expr). elif (record { el = true; raw = l; when = given e })) (λ e. (tt, refl)) (condition_of f s k)
made_given Else l s k = holds_changed l (λ (u : Unit {0}). elif (record { el = true; raw = l; when = otherwise })) (λ u. (tt, refl)) (unless (nothing_at true s k))
made_given Endif l s k = holds_changed l (λ (u : Unit {0}). endif l) (λ u. (tt, refl)) (unless (nothing_at true s k))
made_given Define l s k = holds_changed l (λ (x : Bytes). name x true l) (λ x. (tt, refl)) (first_name true s k)
made_given Undef l s k = holds_changed l (λ (x : Bytes). name x false l) (λ x. (tt, refl)) (only_name true s k)

kind_given : (o : Option Directive) (n : ℕ) (l : Bytes) → Holds l (kind o n l)
kind_given None n l = (tt, refl)
kind_given (Some d) n l =
    let k = length l - length (past (named l)) in
    let r = made d l (content l) k in
    holds_refuse l (ltb 255 (length (content l))) (described (LineTooLong n)) (on_line n r) (holds_on l n r (made_given d l (content l) k))

holds_ok : {F : Type 0} (l : Bytes) (r : Result Line F) (x : Line) → r ≡ Ok x → Holds l r → Given l x
holds_ok {F} l r x e h = subst (λ (z : Result Line F). Holds l z) e h

pub classified_given : (last c : Bool) (n : ℕ) (l : Bytes) (x : Line) → classified last c n l ≡ Ok x → Given l x
classified_given last c n l x e =
    let o = directive_in c l in
    let third = refuse (c && hash (front c l)) (of_lines 11 n) (kind o n l) in
    let left = open_after c l && (last || (conditional o || alone (front c l))) in
    holds_ok l (classified last c n l) x e
    (holds_refuse l (eqb (final 0 l) 92) (of_lines 9 n) (refuse left (of_lines 10 n) third)
    (holds_refuse l left (of_lines 10 n) third
    (holds_refuse l (c && hash (front c l)) (of_lines 11 n) (kind o n l) (kind_given o n l))))

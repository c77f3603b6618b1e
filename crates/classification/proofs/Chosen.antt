-- A line's refusals, one after the other, and then what it is.
use Rattle.std.proofs.Common.{◌≡◌, ℕ, ◌-◌, Bool, true, false, cond, ◌&&◌, ◌||◌, eqb, length, Some, None, Ok, Err, Option, Result, sym, refl, ap, ◌∙◌, subst, arith}
use Rattle.faults.specs.declared.Refusal.{Refusal}
use Rattle.text.specs.Tokens.{Bytes}
use Rattle.expressions.specs.Placed.{read_in}
use Rattle.expressions.specs.declared.fault.ExpressionFault.{ExpressionFault}
use Rattle.scanning.specs.Modes.{open_after}
use Rattle.directives.specs.declared.Directive.{Directive}
use Rattle.directives.specs.declared.Found.{Found}
use Rattle.directives.specs.Gaps.{front}
use Rattle.directives.specs.Directives.{past, hash, alone, named, directive_of, directive_in, placed, found_in, conditional, final}
use Rattle.sources.specs.declared.fault.LineFault.{LineFault}
use Rattle.sources.specs.declared.fault.LineFault.TheVariants.{Line as FaultyLine}
use Rattle.sources.specs.declared.fault.LineReason.TheVariants.{Continued, CommentOpen, HashBehindComment}
use Rattle.sources.specs.declared.fault.SourceFault.{SourceFault}
use Rattle.sources.specs.declared.fault.SourceFault.TheVariants as source
use Rattle.sources.specs.declared.line.Line.{Line}
use Rattle.sources.specs.declared.line.Line.TheVariants.{Plain}
use Rattle.sources.specs.Faults.{of_lines, line_fault}
use Rattle.sources.specs.Lines.{content}
use Rattle.sources.specs.Classified as definition
use Rattle.sources.specs.Classified.{refuse, made, kind, classified}
use Rattle.sources.specs.Answers.{Classifies}
use Rattle.classification.specs.Parts.{conditional_at, checked_line, Makes}

-- the three tests in a row
module _ (n : ℕ) (k : Result definition.Line Refusal) where
  abbrev Checks : Bool → Bool → Bool → Result (Unit {0}) LineFault
  Checks x y z = refuse x (FaultyLine Continued n) (refuse y (FaultyLine CommentOpen n) (refuse z (FaultyLine HashBehindComment n) (Ok tt)))

  abbrev Chooses : Bool → Bool → Bool → Result definition.Line Refusal
  Chooses x y z = refuse x (of_lines 9 n) (refuse y (of_lines 10 n) (refuse z (of_lines 11 n) k))

  told : (f g : LineFault) → ◌≡◌ {A = Result (Unit {0}) LineFault} (Err f) (Err g) → ◌≡◌ {A = Result definition.Line Refusal} (Err (line_fault g)) (Err (line_fault f))
  told f g e = ap (λ (h : LineFault). Err (line_fault h)) (let q : g ≡ f = cc in q)

  no_fault : {P : Type 0} (f : LineFault) → ◌≡◌ {A = Result (Unit {0}) LineFault} (Err f) (Ok tt) → P
  no_fault f e = let z : ◌≡◌ {A = ℕ} 0 1 = cc in absurd (omega arith)

  pub all_refused : (x y z : Bool) (f : LineFault) → Err f ≡ Checks x y z → Chooses x y z ≡ Err (line_fault f)
  all_refused true y z f e = told f (FaultyLine Continued n) e
  all_refused false true z f e = told f (FaultyLine CommentOpen n) e
  all_refused false false true f e = told f (FaultyLine HashBehindComment n) e
  all_refused false false false f e = no_fault f e

  pub none_refused : (x y z : Bool) → Ok tt ≡ Checks x y z → Chooses x y z ≡ k
  none_refused true y z e = no_fault (FaultyLine Continued n) (sym e)
  none_refused false true z e = no_fault (FaultyLine CommentOpen n) (sym e)
  none_refused false false true e = no_fault (FaultyLine HashBehindComment n) (sym e)
  none_refused false false false e = refl

placed_in : (c : Bool) (d : Option Directive) (n : ℕ) → cond c None (placed d n) ≡ placed (cond c None d) n
placed_in true d n = refl
placed_in false d n = refl

conditional_placed : (d : Option Directive) (n : ℕ) → conditional_at (placed d n) ≡ conditional d
conditional_placed None n = refl
conditional_placed (Some d) n = refl

-- Line number n, its directive o as the code finds it, and whether that is conditional.
module _ (last c : Bool) (n : ℕ) (l : Bytes) (o : Option Found) (d : Bool) (finds : o ≡ cond c None (found_in l)) (tells : d ≡ conditional_at o) where
  abbrev behind : ℕ
  behind = length l - length (past (named l))

  found_is : o ≡ placed (directive_in c l) behind
  found_is = finds ∙ placed_in c (directive_of l) behind

  conditional_is : d ≡ conditional (directive_in c l)
  conditional_is = tells ∙ ap conditional_at found_is ∙ conditional_placed (directive_in c l) behind

  abbrev opens : Bool → Bool
  opens d = open_after c l && (last || (d || alone (front c l)))

  checked_is : checked_line last c n d l ≡ checked_line last c n (conditional (directive_in c l)) l
  checked_is = ap (λ (b : Bool). checked_line last c n b l) conditional_is

  pub line_refused : (f : LineFault) (r : Result Line SourceFault) → Err f ≡ checked_line last c n d l → r ≡ Err (source.Lines f) → Classifies (classified last c n l) r
  line_refused f r e q =
      let k = all_refused n (kind (directive_in c l) n l) (eqb (final 0 l) 92) (opens (conditional (directive_in c l))) (c && hash (front c l)) f (e ∙ checked_is) in
      subst (λ (r : Result Line SourceFault). Classifies (classified last c n l) r) (sym q)
      (subst (λ (z : Result definition.Line Refusal). Classifies z (Err (source.Lines f))) (sym k) refl)

  -- none of the three is due
  module _ (sound : Ok tt ≡ checked_line last c n d l) where
    kind_is : classified last c n l ≡ kind (directive_in c l) n l
    kind_is = none_refused n (kind (directive_in c l) n l) (eqb (final 0 l) 92) (opens (conditional (directive_in c l))) (c && hash (front c l)) (sound ∙ checked_is)

    abbrev Kinds : Option Found → Result definition.Line Refusal
    Kinds None = Ok (definition.plain l)
    Kinds (Some f) = read_in (content l) n (made f.directive l (content l) f.behind)

    kinds_placed : (d : Option Directive) → Kinds (placed d behind) ≡ kind d n l
    kinds_placed None = refl
    kinds_placed (Some d) = refl

    classified_is : (p : Option Found) → p ≡ o → classified last c n l ≡ Kinds p
    classified_is p e = kind_is ∙ sym (kinds_placed (directive_in c l)) ∙ ap Kinds (sym (e ∙ found_is))

    pub line_plain : None ≡ o → Classifies (classified last c n l) (Ok Plain)
    line_plain e = subst (λ (z : Result definition.Line Refusal). Classifies z (Ok Plain)) (sym (classified_is None e)) refl

    module _ (f : Found) (is : Some f ≡ o) where
      read_made : (z : Result definition.Line Refusal) (y : Line) → Makes z (Ok y) → Classifies z (Ok y)
      read_made (Ok x) y h = h
      read_made (Err g) y h = absurd h

      read_refused : (z : Result definition.Line Refusal) (g : ExpressionFault) → Makes z (Err g) → Classifies z (Err (source.Expression g))
      read_refused (Ok x) g h = absurd h
      read_refused (Err e) g h = h

      pub line_made : (y : Line) → Makes (read_in (content l) n (made f.directive l (content l) f.behind)) (Ok y) → Classifies (classified last c n l) (Ok y)
      line_made y h = subst (λ (z : Result definition.Line Refusal). Classifies z (Ok y)) (sym (classified_is (Some f) is)) (read_made _ y h)

      pub line_wrong : (g : ExpressionFault) (r : Result Line SourceFault) → r ≡ Err (source.Expression g)
          → Makes (read_in (content l) n (made f.directive l (content l) f.behind)) (Err g) → Classifies (classified last c n l) r
      line_wrong g r q h =
          subst (λ (r : Result Line SourceFault). Classifies (classified last c n l) r) (sym q)
          (subst (λ (z : Result definition.Line Refusal). Classifies z (Err (source.Expression g))) (sym (classified_is (Some f) is)) (read_refused _ g h))

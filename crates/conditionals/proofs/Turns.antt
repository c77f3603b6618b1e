-- A name that has no entry, and the shape before the first line.
use Rattle.std.proofs.Common.{◌≡◌, ℕ, suc, ◌<◌, ◌≤◌, Bool, true, false, cond, not, ◌&&◌, leb, List, [], ◌∷◌, ◌++◌, length, is_some, Some, None, Ok, Err, Option, Bor, sym, refl, ap, ◌∙◌}
use Rattle.std.proofs.lemmas.Bool.{cond-true, cond-false, le-leb, lt-leb}
use Rattle.faults.specs.declared.Refusal.{Refusal}
use Rattle.text.specs.Tokens.{Bytes}
use Rattle.names.specs.Names.{texts, index_of}
use Rattle.sources.specs.Lines.{nil}
use Rattle.sources.specs.Faults.{of_conditionals}
use Rattle.conditionals.specs.Shape.{Shape, has, entered, ends, begun}
use Rattle.conditionals.specs.Answers.{beginning}

pub texts_length : (rs : List (Bor Bytes)) → length (texts rs) ≡ length rs
texts_length [] = refl
texts_length (r ∷ rs) = ap suc (texts_length rs)

pub texts_append : (a b : List (Bor Bytes)) → texts (a ++ b) ≡ texts a ++ texts b
texts_append [] b = refl
texts_append (r ∷ a) b = ap (λ (l : List Bytes). r.now ∷ l) (texts_append a b)

-- the look-up found no entry
pub not_known : (x : Bytes) (xs items : List (Bor Bytes)) (o : Option ℕ) → xs ≡ items → o ≡ index_of (texts xs) x → false ≡ is_some o → has x (texts items) ≡ false
not_known x xs items o e q h = sym (h ∙ ap is_some q ∙ ap (λ (l : List (Bor Bytes)). has x (texts l)) e)

stopped_by : (b : Bool) (f g : Refusal) (s s' : Shape) → cond b (Err g) (Ok s) ≡ Err f → cond b (Err g) (Ok s') ≡ Err f
stopped_by true f g s s' e = cc
stopped_by false f g s s' e = absurd cc

done_by : (b : Bool) (g : Refusal) (s s' t : Shape) → cond b (Err g) (Ok s) ≡ Ok t → cond b (Err g) (Ok s') ≡ Ok s'
done_by true g s s' t e = absurd cc
done_by false g s s' t e = refl

module _ (n : ℕ) (last : Bool) (s : Shape) (x : Bytes) (unknown : has x s.names ≡ false) where
  pub enter_full : 64 ≤ length s.names → ends last n (entered n x true s) ≡ Err (of_conditionals 20 n)
  enter_full l =
      ap (ends last n) (cond-true (not (has x s.names)) _ _ (ap not unknown) ∙ cond-true (leb 64 (length s.names)) _ _ (le-leb 64 (length s.names) l))

  module _ (l : length s.names < 64) where
    abbrev longer : Shape
    longer = record { chains = s.chains; blocks = s.blocks; names = s.names ++ x ∷ [] }

    enter_new : ends last n (entered n x true s) ≡ ends last n (Ok longer)
    enter_new =
        ap (ends last n) (cond-true (not (has x s.names)) _ _ (ap not unknown) ∙ cond-false (leb 64 (length s.names)) _ _ (lt-leb 64 (length s.names) l))

    pub enter_stopped : (f : Refusal) → ends last n (Ok s) ≡ Err f → ends last n (entered n x true s) ≡ Err f
    enter_stopped f e = enter_new ∙ stopped_by (last && not (nil s.chains)) f _ s longer e

    pub enter_done : (t : Shape) → ends last n (Ok s) ≡ Ok t → ends last n (entered n x true s) ≡ Ok longer
    enter_done t e = enter_new ∙ done_by (last && not (nil s.chains)) _ s longer t e

pub beginning_none : (ns : List Bytes) → 64 < length ns → None ≡ beginning ns
beginning_none ns h = sym (cond-false (leb (length ns) 64) (Some (begun ns)) None (lt-leb (length ns) 64 h))

pub beginning_some : (ns : List Bytes) → length ns ≤ 64 → Some (begun ns) ≡ beginning ns
beginning_some ns h = sym (cond-true (leb (length ns) 64) (Some (begun ns)) None (le-leb (length ns) 64 h))

-- A turn of the loop over the lines.
use Rattle.std.proofs.Common.{◌≡◌, ℕ, suc, ◌≤◌, Bool, true, false, cond, List, [], ◌∷◌, ◌++◌, length, vec_items, Ok, Err, Result, sym, refl, ap, ◌∙◌, subst, append-nil, arith, Bor}
use Rattle.names.specs.Names.{texts}
use Rattle.faults.specs.declared.Refusal.{Refusal}
use Rattle.text.specs.Tokens.{Bytes}
use Rattle.sources.specs.Lines.{joined}
use Rattle.sources.specs.Classified.{Opening, given, otherwise, Line, plain, name, if, elif, endif, raw_of, then, changed, classified}
use Rattle.sources.specs.Answers.{shown, seen}
use Rattle.sources.specs.Faults.{described as source}
use Rattle.sources.specs.Places.{Placed, placed_of}
use Rattle.sources.specs.declared.place.SourceLine.{SourceLine}
use Rattle.sources.specs.declared.fault.SourceFault.{SourceFault}
use Rattle.sources.specs.declared.line.Line as codes
use Rattle.conditionals.specs.Shape.{Shape, is_else, shaped, ends}
use Rattle.conditionals.specs.Answers.{shape_of, Proper}
use Rattle.reading.specs.Lines.{due, LineRead}
use Rattle.preprocessor.specs.Plain.{State, step, kept}
use Rattle.preprocessor.specs.Represented.{chains_of, Represents, Asks, Ready}
use Rattle.preprocessor.specs.declared.state.State as states
use Rattle.preprocessor.proofs.Standing.{represents_more}
use Rattle.preprocessing.specs.Lines.{Answer, rendered, Left, Going}
use Rattle.preprocessing.specs.declared.Run.{Run}
use Rattle.preprocessing.proofs.Growing.{no_ok, accepted, same_ok, Entered, none_more, one_more, after_line, defined_there, room_for_if}
use Rattle.preprocessing.proofs.Rendered.{line_read, line_refused, all_read}

-- what an accepted line came from
ends_ok : (last : Bool) (n : ℕ) (r : Result Shape Refusal) (s : Shape) → ends last n r ≡ Ok s → r ≡ Ok s
ends_ok last n (Ok a) s e = (accepted _ _ (Ok a) s e).1
ends_ok last n (Err f) s e = absurd (no_ok f s e)

parted : (x y : Line) (r : Result Shape Refusal) (s : Shape) → changed {B = Line × Shape} (λ (s' : Shape). (x, s')) r ≡ Ok (y, s) → (x ≡ y) × (r ≡ Ok s)
parted x y (Ok a) s e =
    let p = same_ok (x, a) (y, s) e in
    (ap (λ (q : Line × Shape). q.0) p, ap (λ (q : Line × Shape). Ok q.1) p)
parted x y (Err f) s e = absurd (no_ok f (y, s) e)

read_parts : (last : Bool) (n : ℕ) (s : Shape) (z : Result Line Refusal) (x : Line) (s' : Shape)
    → then {B = Line × Shape} z (λ (y : Line). changed {B = Line × Shape} (λ (s₁ : Shape). (y, s₁)) (ends last n (shaped n s y))) ≡ Ok (x, s') → shaped n s x ≡ Ok s'
read_parts last n s (Ok y) x s' e =
    let p = parted y x (ends last n (shaped n s y)) s' e in
    subst (λ (w : Line). shaped n s w ≡ Ok s') p.0 (ends_ok last n (shaped n s y) s' p.1)
read_parts last n s (Err f) x s' e = absurd (no_ok f (x, s') e)

asks : (d : Opening) → is_else d.when ≡ false → Asks d.when
asks d e = by d.when e
  where
    by : (t : _) → is_else t ≡ false → Asks t
    by (given e) q = tt
    by otherwise q = let z : ◌≡◌ {A = ℕ} 0 1 = cc in absurd (omega arith)

ready : (n : ℕ) (s s' : Shape) (σ : State) (x : Line) → length s'.names ≤ 64 → length s.chains ≡ length σ.stack → Proper x → shaped n s x ≡ Ok s' → Ready s'.names σ x
ready n s s' σ (plain l) few deep p e = tt
ready n s s' σ (name x true l) few deep p e = (defined_there n s s' x l e, few)
ready n s s' σ (name x false l) few deep p e = tt
ready n s s' σ (if d) few deep p e = (asks d p, omega (arith, room_for_if n s s' d e, deep))
ready n s s' σ (elif d) few deep p e = tt
ready n s s' σ (endif l) few deep p e = tt

entered : (ns ns' : List Bytes) (q : states.State) (σ : State) → Entered ns ns' → Represents ns q σ → Represents ns' q σ
entered ns ns' q σ none_more h = h
entered ns ns' q σ (one_more x f l) h = represents_more ns x q σ h

joined_kept : (b : Bool) (l : Bytes) → joined (cond b (l ∷ []) []) ≡ cond b l []
joined_kept true l = append-nil l
joined_kept false l = refl

module _ (p : SourceLine) (r r' : Run) (y : codes.Line) (t : Answer) (ps : List Placed) where
  -- a line that was read and, where it is kept (b), written
  pub turn : (b : Bool) → LineRead p r.shape r'.shape y → length (shape_of r'.shape).names ≤ 64
      → ((σ : State) (x : Line) → chains_of r.state ≡ σ.stack → shown y ≡ seen x → kept σ x ≡ cond b (raw_of x ∷ []) [])
      → ((σ : State) (x : Line) → shown y ≡ seen x → Ready (shape_of r'.shape).names σ x → Represents (shape_of r'.shape).names r.state σ → Represents (shape_of r'.shape).names r'.state (step σ x))
      → vec_items r'.output ≡ vec_items r.output ++ cond b p.text.now []
      → Going t r (placed_of p ∷ ps) → Going t r' ps
  turn b d few keeps moves wrote g =
      let σ = g.state in
      let x = d.line in
      let s = shape_of r.shape in
      let s' = shape_of r'.shape in
      let moved = read_parts p.last p.number s (classified p.last p.in_comment p.number p.text.now) x s' d.is in
      let a = after_line p.number s s' x σ g.deep moved in
      let k : joined (kept σ x) ≡ cond b p.text.now [] =
      ap joined (keeps σ x g.stands.chains d.same) ∙ ap (λ (w : Bytes). joined (cond b (w ∷ []) [])) d.raw ∙ joined_kept b p.text.now in
      record {
        state = step σ x;
        stands = moves σ x d.same (ready p.number s s' σ x few g.deep d.proper moved) (entered s.names s'.names r.state σ a.names g.stands);
        deep = a.deep;
        left = subst (λ (w : Bytes). Left t w (rendered ps s' (step σ x))) (ap (λ (w : Bytes). vec_items r.output ++ w) k ∙ sym wrote)
            (line_read t (vec_items r.output) (placed_of p) ps s s' σ x d.is g.left);
      }

-- a line that was refused
pub refused : (p : SourceLine) (r : Run) (f : SourceFault) (t : Answer) (ps : List Placed) → due p r.shape ≡ Err (source f) → Going t r (placed_of p ∷ ps) → t ≡ Err (source f)
refused p r f t ps h g = line_refused t (vec_items r.output) (placed_of p) ps (shape_of r.shape) g.state (source f) h g.left

-- nothing is left
pub finished : (t : Answer) (r : Run) (ps : List Placed) → ps ≡ [] → Going t r ps → t ≡ Ok (vec_items r.output)
finished t r ps e g = all_read t (vec_items r.output) (shape_of r.shape) g.state (subst (λ (z : List Placed). Left t (vec_items r.output) (rendered z (shape_of r.shape) g.state)) e g.left)

pub length_texts : (ns : List (Bor Bytes)) → length (texts ns) ≡ length ns
length_texts [] = refl
length_texts (r ∷ ns) = ap suc (length_texts ns)

-- what is written of a line that is kept, and of one that is not
pub written : (a bs l : Bytes) (b : Bool) → b ≡ true → a ≡ bs ++ l → a ≡ bs ++ cond b l []
written a bs l true e h = h
written a bs l false e h = let z : ◌≡◌ {A = ℕ} 0 1 = cc in absurd (omega arith)

pub unwritten : (a bs l : Bytes) (b : Bool) → b ≡ false → a ≡ bs → a ≡ bs ++ cond b l []
unwritten a bs l true e h = let z : ◌≡◌ {A = ℕ} 0 1 = cc in absurd (omega arith)
unwritten a bs l false e h = h ∙ sym (append-nil bs)

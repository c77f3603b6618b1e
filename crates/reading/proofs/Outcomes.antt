-- From the two parts of reading a line to the whole.
use Rattle.std.proofs.Common.{◌≡◌, Ok, Err, Result, sym, refl, ap, ◌∙◌}
use Rattle.faults.specs.declared.Refusal.{Refusal}
use Rattle.sources.specs.Classified as definition
use Rattle.sources.specs.Classified.{then, changed, classified}
use Rattle.sources.specs.Answers.{shown, seen, Classifies}
use Rattle.sources.specs.Faults.{described}
use Rattle.sources.specs.declared.place.SourceLine.{SourceLine}
use Rattle.sources.specs.declared.fault.SourceFault.{SourceFault}
use Rattle.sources.specs.declared.fault.SourceFault.TheVariants as source
use Rattle.sources.specs.declared.fault.ConditionalFault.{ConditionalFault}
use Rattle.sources.specs.declared.line.Line.{Line}
use Rattle.conditionals.specs.Shape.{Shape, shaped, ends}
use Rattle.conditionals.specs.Answers.{shape_of, Proper, Reads}
use Rattle.conditionals.specs.declared.Shape as code
use Rattle.reading.specs.Lines.{due, LineRead}
use Rattle.reading.proofs.Given.{classified_given}

abbrev Classes : Type 0
Classes = Result definition.Line Refusal

-- the definition's line, where the code has one
pub line_of : (z : Classes) (y : Line) → Classifies z (Ok y) → (x : definition.Line) × (z ≡ Ok x) × (shown y ≡ seen x)
line_of (Ok x) y h = (x, refl, h)
line_of (Err e) y h = absurd h

refusal_of : (z : Classes) (f : SourceFault) → Classifies z (Err f) → z ≡ Err (described f)
refusal_of (Ok x) f h = absurd h
refusal_of (Err e) f h = ap (λ (r : Refusal). Err r) (sym h)

module _ (p : SourceLine) (s : code.Shape) where
  abbrev z : Classes
  z = classified p.last p.in_comment p.number p.text.now

  abbrev behind : definition.Line → Result (definition.Line × Shape) Refusal
  behind x = changed (λ s'. (x, s')) (ends p.last p.number (shaped p.number (shape_of s) x))

  -- a line that is accepted
  pub accepted : (s' : code.Shape) (y : Line) (u : Unit {0}) → Classifies z (Ok y)
      → ((x : definition.Line) → Proper x → shown y ≡ seen x → Reads s s' (ends p.last p.number (shaped p.number (shape_of s) x)) (Ok u)) → LineRead p s s' y
  accepted s' y u h r =
      let x = line_of z y h in
      let g = classified_given p.last p.in_comment p.number p.text.now x.0 x.1 in
      record {
        line = x.0;
        is = ap (λ (c : Classes). then c behind) x.1 ∙ ap (λ (t : Result Shape Refusal). changed (λ s₁. (x.0, s₁)) t) (r x.0 g.0 x.2);
        same = x.2;
        proper = g.0;
        raw = g.1;
      }

  -- one that is refused for what it is
  pub refused : (f : SourceFault) → Classifies z (Err f) → due p s ≡ Err (described f)
  refused f h = ap (λ (c : Classes). then c behind) (refusal_of z f h)

  -- one that is refused for where it stands
  pub out_of_place : (s' : code.Shape) (y : Line) (f : ConditionalFault) → Classifies z (Ok y)
      → ((x : definition.Line) → Proper x → shown y ≡ seen x → Reads s s' (ends p.last p.number (shaped p.number (shape_of s) x)) (Err f))
      → (due p s ≡ Err (described (source.Conditionals f))) × (s' ≡ s)
  out_of_place s' y f h r =
      let x = line_of z y h in
      let g = classified_given p.last p.in_comment p.number p.text.now x.0 x.1 in
      let q = r x.0 g.0 x.2 in
      (ap (λ (c : Classes). then c behind) x.1 ∙ ap (λ (t : Result Shape Refusal). changed (λ s₁. (x.0, s₁)) t) q.0, q.1)

-- What an operation on the cells is to the store.
use Rattle.std.proofs.Common.{◌≡◌, ℕ, ◌-◌, ◌^◌, ◌<◌, ◌≤◌, Bool, true, false, cond, ◌&&◌, ltb, ◌⊎◌, List, length, Some, None, Ok, Err, Result, sym, refl, ap, ◌∙◌, subst, ap₂, ⊎_elim, arith}
use Rattle.std.proofs.lemmas.Bool.{cases_lt, lt-ltb, le-ltb, and_from, and_left, and_right}
use Rattle.stores.specs.Model.{Model, set_at, kept, Appended}
use Rattle.stores.specs.Joined.{joined}
use Rattle.stores.specs.Outcome.{Op, switch, result, full, numbers, refusal, Outcome}
use Rattle.stores.specs.declared.fault.StoreFault.{StoreFault}
use Rattle.stores.specs.declared.fault.StoreFault.TheVariants.{NoSwitch, NoNumber, Full}
use Rattle.cells.specs.Cells.{Cell, on, build, joint, Made}
use Rattle.operations.specs.Ops.{meaning}
use Rattle.cells.specs.Words.{switches, count, cells_of, capacity, Valid, Accepted, Operated}
use Rattle.stores.specs.declared.connective.Connective.{Connective}
use Rattle.stores.specs.declared.connective.Connective.TheVariants.{Both, Either, Less}
use Rattle.cells.specs.Rolling.{rolled}
use Rattle.cells.proofs.Build.{build_made, build_ext}
use Rattle.cells.proofs.Chained.{length_cells}
use Rattle.cells.proofs.Rolling.{rolled_back}
use Rattle.diagrams.specs.Meaning.{means, lacking}
use Rattle.diagrams.specs.Cutting.{size_means, set_inside, set_outside, count_fits, cut_words}
use Rattle.diagrams.specs.Stores.{with_words, rollback}
use Rattle.diagrams.specs.Laws.{same_words}
use Rattle.diagrams.specs.declared.Diagrams.{Diagrams}
use Rattle.diagrams.specs.Cutting.{capacity_same, grown}

-- f is the result of an operation whose arguments are in order where ok holds, and whose fault is wrong where it does not
pub record Asked (ws : List ℕ) (op : Op) (ok : Type 0) (wrong : StoreFault) (f : ℕ → Bool) : Type 0 where
  pub agrees : ok → (k : ℕ) → k < 2 ^ switches ws → result (means ws) op k ≡ f k
  pub outside : (k : ℕ) → 2 ^ switches ws ≤ k → result (means ws) op k ≡ false
  pub fine : (need : ℕ) → ok → refusal (means ws) need op ≡ full (means ws) need
  pub bad : (need : ℕ) → (ok → ⊥) → refusal (means ws) need op ≡ Some wrong

module _ (s : Diagrams) (ws' : List ℕ) (v' : Valid ws') (op : Op) (ok : Type 0) (wrong : StoreFault) (f : ℕ → Bool)
    (len : length ws' ≡ length s.words.now) (q : Asked s.words.now op ok wrong f) where
  abbrev ws : List ℕ
  ws = s.words.now

  abbrev v : Valid ws
  v = s.valid

  abbrev N : ℕ
  N = switches ws

  abbrev cs : List Cell
  cs = cells_of ws

  abbrev ds : List Cell
  ds = cells_of ws'

  lacks : ok → lacking ws op ≡ length (build cs N f).0 - length cs
  lacks o = ap (λ (p : List Cell × ℕ). length p.0 - length cs) (build_ext cs N (result (means ws) op) f (q.agrees o))

  module _ (o : ok) (r : ℕ) (x : Accepted ws ws' (build cs N f) r) where
    made : Made N cs N f (ds, r)
    made = subst (Made N cs N f) (sym x.answers) (build_made N cs v.formed.reduced N f (omega arith))

    built : length (build cs N f).0 ≡ length ds
    built = ap (λ (p : List Cell × ℕ). length p.0) (sym x.answers)

    more : lacking ws op ≡ count ws' - count ws
    more = omega (arith, lacks o, built, length_cells ws, length_cells ws')

    longer : count ws ≤ count ws'
    longer = omega (arith, x.grows.longer, length_cells ws, length_cells ws')

    room : count ws' ≤ capacity ws
    room = omega (arith, count_fits ws' x.store, capacity_same ws ws' len)

    none_due : refusal (means ws) (lacking ws op) op ≡ None
    none_due =
        q.fine (lacking ws op) o
        ∙ ap (λ (b : Bool). cond b (Some Full) None) (le-ltb (capacity ws - length (means ws).held) (lacking ws op) (omega (arith, more, longer, room, size_means ws)))

    there : r < count ws'
    there = omega (arith, made.there, length_cells ws')

    undo : cut_words ws' (length (means ws).held) ≡ ws
    undo =
        let e : kept (means ws') (length (means ws).held) ≡ count ws = omega (arith, size_means ws, size_means ws', longer, length_cells ws, v.formed.reduced.two) in
        ap (rolled ws') e ∙ rolled_back ws ws' v x.store len x.switches_same x.grows x.beyond

    pub answer : (k : ℕ) → set_at (means ws') r k ≡ result (means ws) op k
    answer k = ⊎_elim
        (λ (lt : k < 2 ^ N).
        set_inside ws' r k there (subst (λ (n : ℕ). k < 2 ^ n) (sym x.switches_same) lt) ∙ made.means k lt ∙ sym (q.agrees o k lt))
        (λ (le : 2 ^ N ≤ k).
        set_outside ws' r k (subst (λ (n : ℕ). 2 ^ n ≤ k) (sym x.switches_same) le) ∙ sym (q.outside k le))
        (cases_lt k (2 ^ N))

    pub accepted : Outcome (λ (s : Diagrams). means s.words.now) rollback (λ (s : Diagrams) (op : Op). lacking s.words.now op) s (with_words s ws' v') op (Ok r)
    accepted =
        record {
          due = none_due;
          grown = record {
            appended = subst (λ (n : ℕ). Appended (means ws) (means ws') n) (sym more) (grown ws ws' v len x.switches_same x.grows);
            undo = same_words s _ ws _ v undo;
          };
          within = omega (arith, there, size_means ws');
          set = λ i k. answer k i;
        }

  pub refused : (e : StoreFault) → ws' ≡ ws → ((e ≡ wrong) × (ok → ⊥)) ⊎ ((e ≡ Full) × ok × (capacity ws < length (build cs N f).0))
      → Outcome (λ (s : Diagrams). means s.words.now) rollback (λ (s : Diagrams) (op : Op). lacking s.words.now op) s (with_words s ws' v') op (Err e)
  refused e same why =
      record {
        due = ⊎_elim
            (λ (b : (e ≡ wrong) × (ok → ⊥)). q.bad (lacking ws op) b.1 ∙ ap (λ (x : StoreFault). Some x) (sym b.0))
            (λ (b : (e ≡ Full) × ok × (capacity ws < length (build cs N f).0)).
            q.fine (lacking ws op) b.1
            ∙ ap (λ (t : Bool). cond t (Some Full) None)
            (lt-ltb (capacity ws - length (means ws).held) (lacking ws op) (omega (arith, lacks b.1, b.2, size_means ws, length_cells ws, count_fits ws v)))
            ∙ ap (λ (x : StoreFault). Some x) (sym b.0))
            why;
        same = same_words s ws' ws v' v same;
      }

  pub outcome : (r : Result ℕ StoreFault) → Operated ws ws' ok wrong (build cs N f) r
      → Outcome (λ (s : Diagrams). means s.words.now) rollback (λ (s : Diagrams) (op : Op). lacking s.words.now op) s (with_words s ws' v') op r
  outcome (Ok r) x = accepted x.0 r x.1
  outcome (Err e) x = refused e x.0 x.1

module _ (ws : List ℕ) (o : Connective) (a b : ℕ) where
  abbrev m : Model
  m = means ws

  abbrev Held : Type 0
  Held = (a < count ws) × (b < count ws)

  result_is : (o : Connective) (k : ℕ) → result m (joined o a b) k ≡ meaning o (set_at m a k) (set_at m b k)
  result_is Both k = refl
  result_is Either k = refl
  result_is Less k = refl

  refusal_is : (o : Connective) (need : ℕ) → refusal m need (joined o a b) ≡ numbers m a b need
  refusal_is Both need = refl
  refusal_is Either need = refl
  refusal_is Less need = refl

  neither : (o : Connective) → meaning o false false ≡ false
  neither Both = refl
  neither Either = refl
  neither Less = refl

  held_is : (c : ℕ) → c < count ws → ltb c (length m.held) ≡ true
  held_is c h = lt-ltb c (length m.held) (omega (arith, h, size_means ws))

  pub asked_connective : Asked ws (joined o a b) Held NoNumber (joint (meaning o) (cells_of ws) a b)
  asked_connective =
      record {
        agrees = λ h k l. result_is o k ∙ ap₂ (meaning o) (set_inside ws a k h.0 l) (set_inside ws b k h.1 l);
        outside = λ k l. result_is o k ∙ ap₂ (meaning o) (set_outside ws a k l) (set_outside ws b k l) ∙ neither o;
        fine = λ need h.
            refusal_is o need
            ∙ ap (λ (t : Bool). cond t (full m need) (Some NoNumber)) (and_from (ltb a (length m.held)) (ltb b (length m.held)) (held_is a h.0) (held_is b h.1));
        bad = λ need h.
            refusal_is o need
            ∙ ap (λ (t : Bool). cond t (full m need) (Some NoNumber)) (⊎_elim
            (λ (p : a < count ws). ⊎_elim
            (λ (q : b < count ws). absurd (h (p, q)))
            (λ (q : count ws ≤ b). and_right (ltb a (length m.held)) (ltb b (length m.held)) (le-ltb b (length m.held) (omega (arith, q, size_means ws))))
            (cases_lt b (count ws)))
            (λ (p : count ws ≤ a). and_left (ltb a (length m.held)) (ltb b (length m.held)) (le-ltb a (length m.held) (omega (arith, p, size_means ws))))
            (cases_lt a (count ws)));
      }

pub asked_switch : (ws : List ℕ) (i : ℕ) → Asked ws (switch i) (i < switches ws) NoSwitch (on i)
unfolding on
asked_switch ws i =
    record {
      agrees = λ h k l. ap (λ (t : Bool). t && on i k) (lt-ltb k (2 ^ switches ws) l);
      outside = λ k l. ap (λ (t : Bool). t && on i k) (le-ltb k (2 ^ switches ws) l);
      fine = λ need h. ap (λ (t : Bool). cond t (full (means ws) need) (Some NoSwitch)) (lt-ltb i (switches ws) h);
      bad = λ need h. ap (λ (t : Bool). cond t (full (means ws) need) (Some NoSwitch)) (⊎_elim
          (λ (p : i < switches ws). absurd (h p))
          (λ (p : switches ws ≤ i). le-ltb i (switches ws) p)
          (cases_lt i (switches ws)));
    }

-- What the code's state stands for, line by line.
use Rattle.std.proofs.Common.{◌≡◌, ℕ, ◌^◌, ◌<◌, ◌≤◌, min, Bool, true, false, cond, ◌&&◌, List, [], ◌∷◌, ◌++◌, length, reverse, map, get_or, is_some, sym, refl, ap, ◌∙◌, subst, ap₂, arith, length-append}
use mathlib.Core.Path.{fun_ext}
use lib.ListN.{length-map, length-reverse}
use Rattle.std.proofs.lemmas.Bool.{false≢true}
use Rattle.std.specs.Str.{bytes_eq}
use Rattle.text.specs.Tokens.{Bytes}
use Rattle.names.specs.Names.{index_of}
use Rattle.expressions.specs.Grammar.{Expr}
use Rattle.expressions.specs.Conditions.{postfix}
use Rattle.expressions.specs.Truth.{Env, truth}
use Rattle.expressions.specs.declared.condition.Condition.{Condition}
use Rattle.sources.specs.Classified.{Test, given, otherwise, Opening, Line, plain, name, if, elif, endif}
use Rattle.sources.specs.Answers.{Seen, plainly, naming, opening, further, rest, ending, steps_of, shown, asked, seen}
use Rattle.sources.specs.declared.line.Line.{Line as CodeLine}
use Rattle.sources.specs.declared.line.Line.TheVariants as code
use Rattle.truth.specs.Worked.{env_of}
use Rattle.preprocessor.specs.Plain as definition
use Rattle.preprocessor.specs.declared.state.State.{State}
use Rattle.preprocessor.specs.declared.state.Frame.{Frame}
use Rattle.preprocessor.specs.Represented.{frame_of, chains_of, Represents, Asks, Ready, marked, entered, continued}
use Rattle.preprocessor.proofs.Flags.{Bits, env_more, env_began, noted, noted_beyond}

-- a line that is seen so leads from the state s to s', in the terms of the code
abbrev pub Moves : List Bytes → State → State → Seen → Type 0
Moves ns s s' plainly = ⊥
Moves ns s s' (naming x v) = (s'.flags ≡ cond (definition.active (chains_of s)) (marked (index_of ns x) v s.flags) s.flags) × (chains_of s' ≡ chains_of s)
Moves ns s s' (opening is) =
    (s'.flags ≡ s.flags) × ((e : Expr) → is ≡ postfix e → length s.chains.items < 32 → chains_of s' ≡ entered (truth e (env_of ns s.flags)) (chains_of s))
Moves ns s s' (further is) = (s'.flags ≡ s.flags) × ((e : Expr) → is ≡ postfix e → chains_of s' ≡ continued (truth e (env_of ns s.flags)) (chains_of s))
Moves ns s s' rest = ⊥
Moves ns s s' ending = ⊥

-- a name that gets an entry is not defined yet
pub represents_more : (ns : List Bytes) (x : Bytes) (s : State) (σ : definition.State) → Represents ns s σ → Represents (ns ++ x ∷ []) s σ
represents_more ns x s σ r = record {
  names = λ y. r.names y ∙ sym (env_more ns x y s.flags r.beyond);
  chains = r.chains;
  beyond = λ i h. r.beyond i (omega (arith, h, length-append ns (x ∷ [])));
}

chains_length : (fs : List Frame) → length (map frame_of (reverse fs)) ≡ length fs
chains_length fs = length-map (reverse fs) frame_of ∙ length-reverse fs

module _ (ns : List Bytes) (s s' : State) (σ : definition.State) (r : Represents ns s σ) where
  -- the flags stay
  same_flags : (st : List definition.Frame) → s'.flags ≡ s.flags → chains_of s' ≡ st → Represents ns s' (record { env = σ.env; stack = st })
  same_flags st e h = record {
    names = λ y. r.names y ∙ sym (ap (λ (fs : List Bool). env_of ns fs y) e);
    chains = h;
    beyond = λ i l. ap (λ (fs : List Bool). get_or fs i false) e ∙ r.beyond i l;
  }

  env_same : env_of ns s.flags ≡ σ.env
  env_same = sym (fun_ext (λ y. r.names y))

  entering : (w : Test) → Asks w → length σ.stack < 32 → Moves ns s s' (asked w opening) → (s'.flags ≡ s.flags) × (chains_of s' ≡ entered (definition.holds w σ.env) σ.stack)
  entering (given e) a lt m =
      let few : length s.chains.items < 32 = omega (arith, chains_length s.chains.items, ap length r.chains) in
      (m.0, m.1 e refl few ∙ ap₂ (λ (D : Env) (st : List definition.Frame). entered (truth e D) st) env_same r.chains)
  entering otherwise a lt m = absurd a

  continuing : (w : Test) → Moves ns s s' (asked w further) → (s'.flags ≡ s.flags) × (chains_of s' ≡ continued (definition.holds w σ.env) σ.stack)
  continuing (given e) m = (m.0, m.1 e refl ∙ ap₂ (λ (D : Env) (st : List definition.Frame). continued (truth e D) st) env_same r.chains)
  continuing otherwise m = absurd m

  furthered_is : (d : Opening) (st : List definition.Frame) → continued (definition.holds d.when σ.env) st ≡ definition.furthered d σ.env st
  furthered_is d [] = refl
  furthered_is d (f ∷ st) = refl

  naming_flags : (x : Bytes) (v a : Bool) (fs : List Bool) → fs ≡ cond a (marked (index_of ns x) v s.flags) s.flags → (v ≡ true → (is_some (index_of ns x) ≡ true) × (length ns ≤ length s.flags))
      → (y : Bytes) → cond (a && bytes_eq x y) v (σ.env y) ≡ env_of ns fs y
  naming_flags x v true fs e h y =
      ap (λ (b : Bool). cond (bytes_eq x y) v b) (r.names y) ∙ noted ns s.flags x y v h ∙ sym (ap (λ (l : List Bool). env_of ns l y) e)
  naming_flags x v false fs e h y = r.names y ∙ sym (ap (λ (l : List Bool). env_of ns l y) e)

  naming_beyond : (x : Bytes) (v a : Bool) (fs : List Bool) → fs ≡ cond a (marked (index_of ns x) v s.flags) s.flags → (i : ℕ) → length ns ≤ i → get_or fs i false ≡ false
  naming_beyond x v true fs e i l = ap (λ (z : List Bool). get_or z i false) e ∙ noted_beyond ns s.flags x v i l ∙ r.beyond i l
  naming_beyond x v false fs e i l = ap (λ (z : List Bool). get_or z i false) e ∙ r.beyond i l

  naming_name : (x l : Bytes) (v : Bool) → (v ≡ true → (is_some (index_of ns x) ≡ true) × (length ns ≤ length s.flags)) → Moves ns s s' (naming x v)
      → Represents ns s' (definition.step σ (name x v l))
  naming_name x l v h m =
      let e = m.0 ∙ ap (λ (st : List definition.Frame). cond (definition.active st) (marked (index_of ns x) v s.flags) s.flags) r.chains in
      record {
        names = naming_flags x v (definition.active σ.stack) s'.flags e h;
        chains = m.1 ∙ r.chains;
        beyond = naming_beyond x v (definition.active σ.stack) s'.flags e;
      }

  moved : (x : Line) → length s.flags ≡ 64 → Ready ns σ x → Moves ns s s' (seen x) → Represents ns s' (definition.step σ x)
  moved (plain l) n g m = absurd m
  moved (name x true l) n g m = naming_name x l true (λ q. (g.0, omega (arith, g.1, n))) m
  moved (name x false l) n g m = naming_name x l false (λ q. absurd (false≢true q)) m
  moved (if d) n g m = let p = entering d.when g.0 g.1 m in same_flags (entered (definition.holds d.when σ.env) σ.stack) p.0 p.1
  moved (elif d) n g m = let p = continuing d.when m in same_flags (definition.furthered d σ.env σ.stack) p.0 (p.1 ∙ furthered_is d σ.stack)
  moved (endif l) n g m = absurd m

abbrev pub Stands : List Bytes → State → State → CodeLine → Type 0
Stands ns s s' y = (σ : definition.State) (x : Line) → shown y ≡ seen x → Ready ns σ x → Represents ns s σ → Represents ns s' (definition.step σ x)

-- whatever the state stood for, it stands for the next
pub stands : (ns : List Bytes) (s s' : State) (y z : CodeLine) → y ≡ z → length s.flags ≡ 64 → Moves ns s s' (shown z) → Stands ns s s' y
stands ns s s' y z e n m σ x q g r = moved ns s s' σ r x n g (subst (λ (w : Seen). Moves ns s s' w) (sym (ap shown e) ∙ q) m)

module _ (ns : List Bytes) (s s' : State) (y : CodeLine) (k : Condition) (v : Bool) (n : length s.flags ≡ 64) (same : s'.flags ≡ s.flags)
    (worth : (e : Expr) → steps_of k ≡ postfix e → v ≡ truth e (env_of ns s.flags)) where
  pub stands_if : y ≡ code.If k → (length s.chains.items < 32 → chains_of s' ≡ entered v (chains_of s)) → Stands ns s s' y
  stands_if e h = stands ns s s' y (code.If k) e n (same, λ e q few. h few ∙ ap (λ (b : Bool). entered b (chains_of s)) (worth e q))

  pub stands_elif : y ≡ code.Elif k → chains_of s' ≡ continued v (chains_of s) → Stands ns s s' y
  stands_elif e h = stands ns s s' y (code.Elif k) e n (same, λ e q. h ∙ ap (λ (b : Bool). continued b (chains_of s)) (worth e q))

-- before the first line
pub stands_first : (s : State) (n k : ℕ) → k < 2 ^ 32 → Bits (min n 32) k s.flags → chains_of s ≡ [] → (ns : List Bytes) → length ns ≡ n → Represents ns s (definition.began (definition.defined_in ns k))
stands_first s n k lt b e ns q = record {
  names = env_began ns k s.flags lt (subst (λ (m : ℕ). Bits (min m 32) k s.flags) (sym q) b);
  chains = e;
  beyond = λ i h. b.above i (omega (arith, h, q));
}

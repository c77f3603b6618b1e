-- One step of the parser against one of the grammar.
use Rattle.std.proofs.Common.{◌≡◌, ℕ, ◌<◌, List, [], ◌∷◌, Bool, true, false, length, Some, None, Option, sym, refl, ap, ◌∙◌, append-nil, rules, arith}
use Rattle.text.specs.Tokens.{Tok, Placed}
use Rattle.text.specs.Pulling.{placed, left, Pulls}
use Rattle.text.specs.declared.scanner.Part.{Part}
use Rattle.text.specs.declared.scanner.Token.{Token}
use Rattle.text.specs.declared.scanner.Token.TheVariants.{And, Or, End}
use Rattle.expressions.specs.Grammar.{is_and, is_or}
use Rattle.std.proofs.lemmas.Grind.{common_steps}
use Rattle.expressions.specs.Conditions.{items, kinds}
use Rattle.parser.specs.Ahead.{before}
use Rattle.parser.specs.Parsing.{ahead, written, Advanced}
use Rattle.expressions.specs.declared.condition.Step.{Step}
use Rattle.arrayvec.specs.ArrayVec.{ArrayVec}
use Rattle.parser.specs.declared.descent.Parser.{Parser}

-- the first token is one that op tells; there is no token
abbrev pub next_is : (Tok → Bool) → List Tok → Bool
next_is op [] = false
next_is op (t ∷ r) = op t

abbrev pub none_left : List Placed → Bool
none_left [] = true
none_left (x ∷ r) = false

-- the first of what is ahead
front : (o : Option Placed) (ps : List Placed) → 0 < length (before o ps) → (x : Placed) × (before o ps ≡ x ∷ ps)
front None ps h = absurd (omega arith)
front (Some x) ps h = (x, refl)

pub pulled : (o : Option Placed) (ps qs : List Placed) → Pulls o ps qs → before o qs ≡ ps
pulled None ps qs h = sym h.0
pulled (Some x) ps qs h = sym h

pub advanced : (p q : Parser) → 0 < length (ahead p) → Pulls (placed q.token) (left p.tokens) (left q.tokens)
    → q.tokens.line ≡ p.tokens.line → q.number ≡ p.number → q.steps ≡ p.steps → Advanced p q
advanced p q h k same number steps =
    let x = front (placed p.token) (left p.tokens) h in
    let rest : ahead q ≡ left p.tokens = pulled (placed q.token) (left p.tokens) (left q.tokens) k in (
      x.0,
      record {
        line = ap (λ r. r.now) same;
        number = number;
        ahead = x.1 ∙ ap (λ (z : List Placed). x.0 ∷ z) (sym rest);
        written = ap (λ (v : ArrayVec Step). items v.items) steps ∙ sym (append-nil (written p));
      },
    )

-- what the current token tells of what is ahead
pub next_yes : (op : Tok → Bool) (p : Parser) (t : Tok) (at : ℕ) → placed p.token ≡ Some (t, at) → op t ≡ true → next_is op (kinds (ahead p)) ≡ true
next_yes op p t at e h = ap (λ (o : Option Placed). next_is op (kinds (before o (left p.tokens)))) e ∙ h

pub not_and : (t : Token) (ps : List Placed) → ((x : Part) → t ≡ And x → ⊥) → next_is is_and (kinds (before (placed t) ps)) ≡ false
not_and t ps h = search rules

pub not_or : (t : Token) (ps : List Placed) → ((x : Part) → t ≡ Or x → ⊥) → next_is is_or (kinds (before (placed t) ps)) ≡ false
not_or t ps h = grind (arith, common_steps)

pub not_end : (t : Token) (ps : List Placed) → ((x : Part) → t ≡ End x → ⊥) → none_left (before (placed t) ps) ≡ false
not_end t ps h = grind (arith, common_steps)

pub none_ahead : (p : Parser) → placed p.token ≡ None → none_left (ahead p) ≡ true
none_ahead p e = ap (λ (o : Option Placed). none_left (before o (left p.tokens))) e

-- What a line of a source is, by itself: a directive with its condition or name, or a plain line; or its refusal. Assumes nothing.
--   Test               what a block asks: a condition, or for `else` nothing
--   Opening            a directive that opens a block: whether its name begins with `el`, its line, and what it asks
--   Line               a line: plain; `define` (true) or `undef` (false) of a name; the `if`, `elif` or `else` that opens a block; `endif`
--   raw_of x            the bytes of line x
--   then r k           what k makes of what was read
--   refuse b f r       the refusal f where b holds, else r
--   changed f r        what was read, with f done to it
--   condition_of f s k  the condition behind offset k of a line s, in each of the three ways to write one
--   made d l s k       the line l, whose bytes without the line feed are s, with the directive d, whose name ends at offset k
--   kind o n l         line number n, with its directive, if it has one: the line's length first, then what stands behind the name
--   classified last c n l   line number n, begun inside a block comment (c) or in code; `last` tells whether it is the source's last. Refusals 9 to 16
use Rattle.std.specs.Prelude.{ℕ, ◌-◌, Bool, true, false, cond, ◌&&◌, ◌||◌, length, Some, None, Ok, Err, Option, Result, ◌==◌}
use Rattle.faults.specs.declared.Refusal.{Refusal}
use Rattle.text.specs.Tokens.{Bytes}
use Rattle.expressions.specs.Grammar.{Expr, named, neg}
use Rattle.expressions.specs.Conditions.{condition_at, only_name, first_name, nothing_at}
use Rattle.expressions.specs.Placed.{read_in, unless}
use Rattle.scanning.specs.Modes.{open_after}
use Rattle.directives.specs.declared.Form.{Form}
use Rattle.directives.specs.declared.Form.TheVariants.{Expression, Defined, Undefined}
use Rattle.directives.specs.declared.Directive.{Directive}
use Rattle.directives.specs.declared.Directive.TheVariants.{If, Elif, Else, Endif, Define, Undef}
use Rattle.directives.specs.Gaps.{front}
use Rattle.directives.specs.Directives.{past, hash, alone, named as from_name, directive_in, conditional, final}
use Rattle.sources.specs.Lines.{content}
use Rattle.sources.specs.Faults.{of_lines}

pub data Test : Type 0 where
  given : Expr → Test
  otherwise : Test

pub record Opening : Type 0 where
  pub el : Bool
  pub raw : Bytes
  pub when : Test

pub data Line : Type 0 where
  plain : Bytes → Line
  name : Bytes → Bool → Bytes → Line
  if : Opening → Line
  elif : Opening → Line
  endif : Bytes → Line

abbrev pub raw_of : Line → Bytes
raw_of (plain l) = l
raw_of (name x v l) = l
raw_of (if d) = d.raw
raw_of (elif d) = d.raw
raw_of (endif l) = l

abbrev pub then : {A B F : Type 0} → Result A F → (A → Result B F) → Result B F
then (Ok a) k = k a
then (Err f) k = Err f

abbrev pub refuse : {A F : Type 0} → Bool → F → Result A F → Result A F
refuse b f r = cond b (Err f) r

abbrev pub changed : {A B F : Type 0} → (A → B) → Result A F → Result B F
changed f (Ok a) = Ok (f a)
changed f (Err e) = Err e

abbrev pub condition_of : Form → Bytes → ℕ → Result Expr (ℕ × ℕ)
condition_of Expression s k = condition_at true s k
condition_of Defined s k = changed (λ x. named x) (only_name true s k)
condition_of Undefined s k = changed (λ x. neg (named x)) (only_name true s k)

abbrev pub made : Directive → Bytes → Bytes → ℕ → Result Line (ℕ × ℕ)
made (If f) l s k = changed (λ e. if (record { el = false; raw = l; when = given e })) (condition_of f s k)
made (Elif f) l s k = changed (λ e. elif (record { el = true; raw = l; when = given e })) (condition_of f s k)
made Else l s k = changed (λ u. elif (record { el = true; raw = l; when = otherwise })) (unless (nothing_at true s k))
made Endif l s k = changed (λ u. endif l) (unless (nothing_at true s k))
made Define l s k = changed (λ x. name x true l) (first_name true s k)
made Undef l s k = changed (λ x. name x false l) (only_name true s k)

abbrev pub kind : Option Directive → ℕ → Bytes → Result Line Refusal
kind None n l = Ok (plain l)
kind (Some d) n l = read_in (content l) n (made d l (content l) (length l - length (past (from_name l))))

abbrev pub classified : Bool → Bool → ℕ → Bytes → Result Line Refusal
classified last c n l =
    refuse (final 0 l == 92) (of_lines 9 n)
    (refuse (open_after c l && (last || (conditional (directive_in c l) || alone (front c l)))) (of_lines 10 n)
    (refuse (c && hash (front c l)) (of_lines 11 n)
    (kind (directive_in c l) n l)))

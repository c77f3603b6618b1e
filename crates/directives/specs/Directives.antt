-- The directive of a line, and other questions about its bytes. Assumes nothing.
--   run s            the longest front of letters and digits, as in `text`
--   past s           what stands behind it
--   table            the ten names with their directives
--   lookup t w       the directive that the table t has for the name w
--   rest s           what stands behind the first byte
--   nil s            s is empty
--   hash s           `#` is the first byte of s
--   alone s          and only blanks and block comments stand behind it
--   named l          the line l from the name of its directive on
--   directive_of l    the directive of a line that begins in code, if it is one
--   directive_in c l  the same of a line that may begin inside a block comment (c): there it has none
--   placed o n       the directive with the offset n
--   found_in l        the directive of a line that begins in code, and the offset just behind its name
--   conditional o    there is a directive, and it is one of the eight that are conditional
--   final z s        the last byte of s that is no blank, or z
use Rattle.std.specs.Prelude.{ℕ, ◌-◌, Bool, true, false, cond, ◌&&◌, List, [], ◌∷◌, length, Some, None, codes, Option, ◌==◌}
use Rattle.std.specs.Str.{bytes_eq}
use Rattle.directives.specs.declared.Form.TheVariants.{Expression, Defined, Undefined}
use Rattle.directives.specs.declared.Directive.{Directive}
use Rattle.directives.specs.declared.Directive.TheVariants.{If, Elif, Else, Endif, Define, Undef}
use Rattle.directives.specs.declared.Found.{Found}
use Rattle.directives.specs.Gaps.{Bytes, word_byte, blank, between, skip}
pub use Rattle.text.specs.Tokens.{run}

abbrev pub past : Bytes → Bytes
past [] = []
past (x ∷ r) = cond (word_byte x) (past r) (x ∷ r)

abbrev pub table : List (Bytes × Directive)
table =
    (codes "if", If Expression) ∷ (codes "ifdef", If Defined) ∷ (codes "ifndef", If Undefined)
    ∷ (codes "elif", Elif Expression) ∷ (codes "elifdef", Elif Defined) ∷ (codes "elifndef", Elif Undefined)
    ∷ (codes "else", Else) ∷ (codes "endif", Endif) ∷ (codes "define", Define) ∷ (codes "undef", Undef) ∷ []

abbrev pub lookup : List (Bytes × Directive) → Bytes → Option Directive
lookup [] w = None
lookup (e ∷ t) w = cond (bytes_eq w e.0) (Some e.1) (lookup t w)

abbrev pub rest : Bytes → Bytes
rest [] = []
rest (x ∷ r) = r

abbrev pub nil : Bytes → Bool
nil [] = true
nil (x ∷ r) = false

abbrev pub hash : Bytes → Bool
hash [] = false
hash (x ∷ r) = x == 35

abbrev pub alone : Bytes → Bool
alone s = hash s && nil (skip between (rest s))

abbrev pub named : Bytes → Bytes
named l = skip between (rest (skip between l))

abbrev pub directive_of : Bytes → Option Directive
directive_of l = cond (hash (skip between l)) (lookup table (run (named l))) None

abbrev pub directive_in : Bool → Bytes → Option Directive
directive_in c l = cond c None (directive_of l)

abbrev pub placed : Option Directive → ℕ → Option Found
placed None n = None
placed (Some d) n = Some (record { directive = d; behind = n })

abbrev pub found_in : Bytes → Option Found
found_in l = placed (directive_of l) (length l - length (past (named l)))

abbrev pub conditional : Option Directive → Bool
conditional None = false
conditional (Some (If f)) = true
conditional (Some (Elif f)) = true
conditional (Some Else) = true
conditional (Some Endif) = true
conditional (Some Define) = false
conditional (Some Undef) = false

abbrev pub final : ℕ → Bytes → ℕ
final z [] = z
final z (x ∷ r) = final (cond (blank x) z x) r

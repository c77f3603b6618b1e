-- Scanning as steps from mode to mode. Assumes nothing.
--   step m x       the mode behind the byte x, which stands in mode m
--   steps m s      the mode behind all bytes of s
--   open_in m       in mode m a block comment is open; every other mode returns to code at a line's end
--   begun c        the mode at the beginning of a line, inside a block comment (c) or in code
--   open_after c s  a block comment is open after the line s that began inside one (c) or in code
-- Bytes by number: 34 `"`, 39 `'`, 42 `*`, 47 `/`, 92 backslash.
use Rattle.std.specs.Prelude.{ℕ, Bool, true, false, cond, [], ◌∷◌, ◌==◌}
use Rattle.scanning.specs.declared.Mode.{Mode}
use Rattle.scanning.specs.declared.Mode.TheVariants.{Code, Slash, Block, Star, Line, Text, TextEscape, Character, CharacterEscape}
use Rattle.scanning.specs.Bytes.{Bytes}

abbrev pub step : Mode → ℕ → Mode
step Code x = cond (x == 47) Slash (cond (x == 34) Text (cond (x == 39) Character Code))
step Slash x = cond (x == 42) Block (cond (x == 47) Line (cond (x == 34) Text (cond (x == 39) Character Code)))
step Block x = cond (x == 42) Star Block
step Star x = cond (x == 47) Code (cond (x == 42) Star Block)
step Line x = Line
step Text x = cond (x == 34) Code (cond (x == 92) TextEscape Text)
step TextEscape x = Text
step Character x = cond (x == 39) Code (cond (x == 92) CharacterEscape Character)
step CharacterEscape x = Character

abbrev pub steps : Mode → Bytes → Mode
steps m [] = m
steps m (x ∷ s) = steps (step m x) s

abbrev pub open_in : Mode → Bool
open_in Code = false
open_in Slash = false
open_in Block = true
open_in Star = true
open_in Line = false
open_in Text = false
open_in TextEscape = false
open_in Character = false
open_in CharacterEscape = false

abbrev pub begun : Bool → Mode
begun c = cond c Block Code

abbrev pub open_after : Bool → Bytes → Bool
open_after c s = open_in (steps (begun c) s)

-- A token and those behind it. Assumes nothing.
--   before o ps        the tokens from the current one on, where ps are behind it
--   from t ts          the tokens from t on, where those left of ts are behind it
use Rattle.std.specs.Prelude.{List, [], ◌∷◌, Some, None, Option}
use Rattle.text.specs.Tokens.{Placed}
use Rattle.text.specs.Pulling.{placed, left}
use Rattle.text.specs.declared.scanner.Token.{Token}
use Rattle.text.specs.declared.scanner.Tokens.{Tokens}

abbrev pub before : Option Placed → List Placed → List Placed
before None ps = []
before (Some p) ps = p ∷ ps

abbrev pub from : Token → Tokens → List Placed
from t ts = before (placed t) (left ts)

-- How a standing is printed. Assumes nothing.
--   standing_text s   the word for it
use Rattle.std.specs.Prelude.{ℕ, List, codes}
use Rattle.standing.specs.declared.verdict.Standing.{Standing}
use Rattle.standing.specs.declared.verdict.Standing.TheVariants.{Free, On, Off}

abbrev pub standing_text : Standing → List ℕ
standing_text Free = codes "free"
standing_text On = codes "on"
standing_text Off = codes "off"

-- What the texts of fractions tell.
use Rattle.std.specs.Prelude.{◌≡◌}
use Rattle.bt_frac.specs.Ratio.{Ratio, IsLowest}
use Rattle.bt_frac.specs.Texts.{frac_text}

-- no two fractions have one text
abbrev pub TextsTell : Type 0
TextsTell = (a b : Ratio) → IsLowest a → IsLowest b → frac_text a ≡ frac_text b → a ≡ b

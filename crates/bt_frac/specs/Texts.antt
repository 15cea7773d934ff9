-- The one spelling of a fraction.
use Rattle.std.specs.Prelude.{ℕ, ◌==◌, List, ◌∷◌, ◌++◌, cond}
use Rattle.std.specs.Fmt.{decimal, signed_decimal}
use Rattle.bt_frac.specs.Ratio.{Ratio}

-- the numerator with its sign, and where the denominator isn't 1, a slash and the denominator; in decimal digits
-- without a leading zero
abbrev pub frac_text : Ratio → List ℕ
frac_text r = cond (r.under == 1) (signed_decimal r.over) (signed_decimal r.over ++ 47 ∷ decimal r.under)

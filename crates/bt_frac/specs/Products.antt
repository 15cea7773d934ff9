-- Products of fractions.
use Rattle.std.specs.Prelude.{◌≡◌, ◌*◌, pos, ◌*ℤ◌}
use Rattle.bt_frac.specs.Ratio.{Ratio}

-- r is the product of a and b
abbrev pub IsProduct : Ratio → Ratio → Ratio → Type 0
IsProduct a b r = r.over *ℤ pos (a.under * b.under) ≡ a.over *ℤ b.over *ℤ pos r.under

-- r is the quotient of a by b: r times b is a
abbrev pub IsDivision : Ratio → Ratio → Ratio → Type 0
IsDivision a b r = IsProduct r b a

-- The fraction that 1 over a fraction is.
use Rattle.std.specs.Prelude.{◌≡◌, pos, ◌*◌, ◌*ℤ◌}
use Rattle.bt_frac.specs.Ratio.{Ratio}

-- r times a is 1
abbrev pub IsInverse : Ratio → Ratio → Type 0
IsInverse a r = r.over *ℤ a.over ≡ pos (a.under * r.under)

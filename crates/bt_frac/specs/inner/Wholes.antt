-- Whole numbers among fractions.
use Rattle.std.specs.Prelude.{◌≡◌, ◌<◌, ◌^◌, unsigned_abs}
use Rattle.bt_frac.specs.Ratio.{Ratio}

-- a whole number whose magnitude is below 2 ^ 63
pub record IsShortWhole (r : Ratio) : Type 0 where
  pub over_short : unsigned_abs r.over < 2 ^ 63
  pub is_whole : r.under ≡ 1

-- The numbers of a line, each over one number and with the other sign.
use Rattle.std.specs.Prelude.{◌≡◌, ℕ}
use Rattle.std.specs.List.{AllZip}
use Rattle.bt_frac.specs.Ratio.{Ratio, IsLowest, negated}
use Rattle.bt_frac.specs.Products.{IsDivision}
use Rattle.bt_linear_forms.specs.Lines.{Terms, IsLine}

-- the term has the position of the first, and its number over the divisor, negated
pub record IsNegatedShare (by : Ratio) (term share : ℕ × Ratio) : Type 0 where
  pub position : share.0 ≡ term.0
  pub lowest : IsLowest share.1
  pub quotient : Ratio
  pub quotient_lowest : IsLowest quotient
  pub is_quotient : IsDivision term.1 by quotient
  pub is_negated : share.1 ≡ negated quotient

-- the same of each term of a line
pub record AreNegatedShares (by : Ratio) (terms shares : Terms) : Type 0 where
  pub line : IsLine shares
  pub each : AllZip (IsNegatedShare by) terms shares

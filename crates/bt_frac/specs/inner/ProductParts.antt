-- Magnitudes of the parts of a product.
use Rattle.std.specs.Prelude.{◌≡◌, ℕ, ◌<◌, ◌*◌, ◌^◌, ℤ, pos, neg_ℤ, ◌*ℤ◌, unsigned_abs, Bool, if◌then◌else◌}
use Rattle.std.specs.Int.{IsGcd}

-- the product of two whole numbers is that of their magnitudes, with a minus where it is negative
abbrev pub IsProductSign : ℤ → ℤ → Bool → Type 0
IsProductSign left right negative =
    let size = unsigned_abs left * unsigned_abs right in left *ℤ right ≡ (if negative then neg_ℤ (pos size) else pos size)

-- m / n is the product of a / b and c / d in lowest terms, and m and n fit
pub record AreProductParts (a b c d m n : ℕ) : Type 0 where
  pub same : m * (b * d) ≡ a * c * n
  pub positive : 0 < n
  pub coprime : IsGcd m n 1
  pub over_fits : m < 2 ^ 127
  pub under_fits : n < 2 ^ 127

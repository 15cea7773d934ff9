-- Terms, told to be those of a form.
use Rattle.std.specs.Prelude.{◌≡◌, ℕ, pos, List}
use Rattle.std.specs.List.{All}
use Rattle.bt_frac.specs.Ratio.{Ratio, IsLowest}
use Rattle.bt_frac.specs.Rows.{HaveColumns}

-- the columns are those of a row, no coefficient is 0, and each is in lowest terms
pub record AreTerms (terms : List (ℕ × Ratio)) : Type 0 where
  pub columns : HaveColumns terms
  pub nonzero : All (λ t. t.1.over ≡ pos 0 → ⊥) terms
  pub coefficients : All (λ t. IsLowest t.1) terms

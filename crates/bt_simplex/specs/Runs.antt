-- Runs of Bland's pivots from a basis on.
use Rattle.std.specs.Prelude.{◌≡◌, ◌≤◌, List, length, ℕ}
use Rattle.bt_pivot.specs.Tableaus.{TableauParts}
use Rattle.bt_simplex.specs.Pivots.{IsFinal, Follows}
use Rattle.bt_pivot.specs.declared.basis.Pivot.{Pivot}

-- so many pivots of Bland's rule, after which the basis isn't final
pub record GoesOn (pivots : ℕ) (t : TableauParts) (steps : List Pivot) : Type 0 where
  pub many : length steps ≡ pivots
  pub last : TableauParts
  pub follows : Follows t steps last
  pub goes_on : IsFinal last → ⊥

-- so many pivots of Bland's rule at most lead from the first tableau to the second
pub record LeadsTo (pivots : ℕ) (t t' : TableauParts) : Type 0 where
  pub steps : List Pivot
  pub few : length steps ≤ pivots
  pub follows : Follows t steps t'

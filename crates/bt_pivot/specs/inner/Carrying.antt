-- Sums of a line that a pivot changes, by those before it and those of the zero line.
use Rattle.std.specs.Prelude.{◌≡◌, ◌+ℤ◌, ◌*ℤ◌, Option, Some}
use Rattle.bt_linear_forms.specs.declared.short.merging.Scales.{Scales}
use Rattle.bt_pivot.specs.declared.short_points.ClassSums.{ClassSums}
use Rattle.bt_pivot.specs.declared.short_points.Sums.{Sums}

-- these are the sums of a line, over its denominator, and a number times another, over that one's, by their scales
pub record AreCarried (scales : Scales) (before other after : Sums) : Type 0 where
  pub before_under : before.under ≡ scales.left_under
  pub other_under : other.under ≡ scales.right_under
  pub value_is : after.value ≡ before.value *ℤ scales.left +ℤ scales.right *ℤ other.value
  pub tiny_is : after.tiny ≡ before.tiny *ℤ scales.left +ℤ scales.right *ℤ other.tiny
  pub under_is : after.under ≡ scales.under

-- the same of a class's sums and another line's, where both are at hand
pub record IsCarriedOf (sums : Option ClassSums) (others : Option Sums) (scales : Scales) (after : ClassSums) : Type 0 where
  pub before : ClassSums
  pub sums_is : sums ≡ Some before
  pub other : Sums
  pub others_is : others ≡ Some other
  pub first_is : after.first ≡ before.first
  pub carried : AreCarried scales before.sums other after.sums

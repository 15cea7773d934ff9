-- A walk over two short lines.
use Rattle.std.specs.Prelude.{◌≡◌, ◌≢◌, ℕ, ◌^◌, ◌+◌, ◌-◌, ◌<◌, ◌≤◌, ℤ, pos, Option, Some, None}
use Rattle.std.specs.List.{All}
use Rattle.bt_frac.specs.Ratio.{Ratio}
use Rattle.bt_linear_forms.specs.Lines.{HasNumber, IsLine, IsCombination}
use Rattle.bt_linear_forms.specs.Shorts.{AreScales, Numbers, reduced, terms_over, IsSmall, IsShort}
use Rattle.bt_linear_forms.specs.inner.Steps.{IsStep}

-- the term of a position and a whole number over a denominator, where that isn't 0
abbrev pub IsTermOver : ℕ → ℕ → ℤ → Option (ℕ × Ratio) → Type 0
IsTermOver under position number (Some term) = (term ≡ (position, reduced number under)) × (number ≢ pos 0)
IsTermOver under position number None = number ≡ pos 0

-- of the sum of a line and a number times another, both over denominators for which these are the scales, this is the
-- first term, and these are what is left of both
abbrev pub IsShortStep : Numbers → Numbers → ℤ → ℤ → ℕ → ℕ → ℤ → Numbers → Numbers → Type 0
IsShortStep left right left_by right_by under position number left' right' =
    (left_under : ℕ) (factor : ℤ) (right_under : ℕ) → AreScales left_under factor right_under left_by right_by under
    → All HasNumber (terms_over left_under left) → All HasNumber (terms_over right_under right)
    → (term : Option (ℕ × Ratio)) → IsTermOver under position number term
    → IsStep (terms_over left_under left) (reduced factor left_under) (terms_over right_under right) term (terms_over left_under left') (terms_over right_under right')

-- over a denominator the numbers are a sum of a line and a number times another
abbrev pub IsShortSum : Numbers → Numbers → ℤ → ℤ → ℕ → Numbers → Type 0
IsShortSum left right left_by right_by under numbers =
    (left_under : ℕ) (factor : ℤ) (right_under : ℕ) → AreScales left_under factor right_under left_by right_by under
    → IsLine (terms_over left_under left) → IsLine (terms_over right_under right)
    → IsShort under numbers × IsCombination (terms_over left_under left) (reduced factor left_under) (terms_over right_under right) (terms_over under numbers)

-- no position is the greatest number of 64 bits, and each number is small
abbrev pub IsSmallTerm : ℕ × ℤ → Type 0
IsSmallTerm term = (term.0 < 2 ^ 64 - 1) × IsSmall term.1

-- one of both places, or each of them, is one further on, and neither is past its list
pub record AreNext (left_length left right_length right left' right' : ℕ) : Type 0 where
  pub left_from : left ≤ left'
  pub left_to : left' ≤ left_length
  pub right_from : right ≤ right'
  pub right_to : right' ≤ right_length
  pub moved : left + right < left' + right'

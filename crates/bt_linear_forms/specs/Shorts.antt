-- Lines of whole numbers over one denominator, and the fractions in lowest terms that these stand for.
use Rattle.std.specs.Prelude.{◌≡◌, ◌≢◌, ℕ, ◌*◌, ◌*ℤ◌, ◌/◌, ◌%◌, ◌^◌, ◌<◌, ◌==◌, zero, suc, ℤ, pos, negsuc, unsigned_abs, neg_ℤ, List, [], ◌∷◌, map, Bool, true, false, Option, Some, None, if◌then◌else◌}
use Rattle.std.specs.List.{All}
use Rattle.bt_frac.specs.Columns.{AreColumnsFrom}
use Rattle.bt_frac.specs.Ratio.{Ratio, parts_ratio}
use Rattle.bt_linear_forms.specs.Lines.{Terms, IsLine}

-- the greatest common divisor, where the second number isn't above so many divisions
abbrev pub divisor_within : ℕ → ℕ → ℕ → ℕ
divisor_within zero a b = a
divisor_within (suc divisions) a b = if b == 0 then a else divisor_within divisions b (a % b)

-- the greatest common divisor
unfoldable pub divisor : ℕ → ℕ → ℕ
divisor a b = divisor_within b a b

-- whether a number is below 0
abbrev pub is_below_zero : ℤ → Bool
is_below_zero (pos n) = false
is_below_zero (negsuc n) = true

-- a whole number over a denominator, in lowest terms
unfoldable pub reduced : ℤ → ℕ → Ratio
reduced z under = parts_ratio (is_below_zero z) (unsigned_abs z / divisor (unsigned_abs z) under) (under / divisor (unsigned_abs z) under)

-- positions, each with a whole number
abbrev pub Numbers : Type 0
Numbers = List (ℕ × ℤ)

-- the terms that whole numbers over a denominator stand for
abbrev pub terms_over : ℕ → Numbers → Terms
terms_over under numbers = map (λ t. (t.0, reduced t.1 under)) numbers

-- a magnitude below 2 ^ 31
abbrev pub IsSmall : ℤ → Type 0
IsSmall z = unsigned_abs z < 2 ^ 31

-- small whole numbers over a small denominator, of which the terms are a line
pub record IsShort (under : ℕ) (numbers : Numbers) : Type 0 where
  pub some : 0 < under
  pub fits : under < 2 ^ 31
  pub small : All (λ t. IsSmall t.1) numbers
  pub line : IsLine (terms_over under numbers)

-- the positions ascend
abbrev pub Ascend : Numbers → Type 0
Ascend numbers = AreColumnsFrom 0 (map (λ t. t.0) numbers)

-- the number of a position, where the numbers name it
abbrev pub whole_at : ℕ → Numbers → Option ℤ
whole_at position [] = None
whole_at position (term ∷ terms) = if term.0 == position then Some term.1 else whole_at position terms

-- the numbers, with the other sign where this is told
abbrev pub signed_numbers : Bool → Numbers → Numbers
signed_numbers false numbers = numbers
signed_numbers true numbers = map (λ t. (t.0, neg_ℤ t.1)) numbers

-- the first number divides the second
abbrev pub Divides : ℕ → ℕ → Type 0
Divides d n = (k : ℕ) × (d * k ≡ n)

-- over this denominator the numbers of a line are its numbers times the first of these, and a factor times those of
-- another line are its numbers times the second
pub record AreScales (left_under : ℕ) (factor : ℤ) (right_under : ℕ) (left right : ℤ) (under : ℕ) : Type 0 where
  pub left_some : 0 < left_under
  pub left_fits : left_under < 2 ^ 31
  pub right_some : 0 < right_under
  pub right_fits : right_under < 2 ^ 31
  pub factor_some : factor ≢ pos 0
  pub factor_small : IsSmall factor
  pub some : 0 < under
  pub fits : under < 2 ^ 31
  pub left_small : IsSmall left
  pub right_small : IsSmall right
  pub by : ℕ
  pub left_is : left ≡ pos by
  pub under_is : by * left_under ≡ under
  pub right_is : right *ℤ pos (left_under * right_under) ≡ factor *ℤ pos under

-- Two lines taken apart from the front, term by term.
use Rattle.std.specs.Prelude.{◌≡◌, ◌≢◌, ◌⊎◌, ◌∷◌, pos, ℕ, ◌+◌, ◌-◌, ◌^◌, ◌<◌, ◌≤◌, length, Option, Some, None, IfSome}
use Rattle.std.specs.List.{All}
use Rattle.bt_frac.specs.Ratio.{Ratio, SameRatio, IsLowest, IsSum}
use Rattle.bt_frac.specs.Products.{IsProduct}
use Rattle.bt_frac.specs.Values.{AreValues, nothing, plus, times}
use Rattle.bt_linear_forms.specs.Lines.{Terms, HasNumber, IsLineFrom, total}

-- what a term adds to a sum, where there is a term
abbrev pub term_total : (ℕ → Ratio) → Option (ℕ × Ratio) → Ratio
term_total at None = nothing
term_total at (Some term) = times term.1 (at term.0)

-- the term of a position and its number, where that isn't 0
abbrev pub IsNumbered : ℕ → Ratio → Option (ℕ × Ratio) → Type 0
IsNumbered position number (Some term) = (term ≡ (position, number)) × (number.over ≢ pos 0)
IsNumbered position number None = number.over ≡ pos 0

-- the term of a position with the sum of a number and a product
pub record AddsTo (position : ℕ) (number factor by : Ratio) (term : Option (ℕ × Ratio)) : Type 0 where
  pub product : Ratio
  pub product_lowest : IsLowest product
  pub is_product : IsProduct factor by product
  pub sum : Ratio
  pub sum_lowest : IsLowest sum
  pub is_sum : IsSum number product sum
  pub is_term : IsNumbered position sum term

-- the term, where there is one, stands at least here, and what is left of both lines stands after it
pub record IsNext (least : ℕ) (term : Option (ℕ × Ratio)) (left right : Terms) : Type 0 where
  pub place : ℕ
  pub reached : least ≤ place
  pub fits : place < 2 ^ 64 - 1
  pub named : IfSome term (λ t. (t.0 ≡ place) × HasNumber t)
  pub left_after : IsLineFrom (place + 1) left
  pub right_after : IsLineFrom (place + 1) right

-- the list, or what is left of it without its first item
abbrev pub IsTail : Terms → Terms → Type 0
IsTail terms rest = (rest ≡ terms) ⊎ ((t : ℕ × Ratio) × (terms ≡ t ∷ rest))

-- the first line and a number times the second are a term, and the same of what is left of both
pub record IsStep (left : Terms) (factor : Ratio) (right : Terms) (term : Option (ℕ × Ratio)) (left' right' : Terms) : Type 0 where
  pub sums : (at : ℕ → Ratio) → AreValues at → All HasNumber left → All HasNumber right
      → SameRatio (plus (total at left) (times factor (total at right))) (plus (term_total at term) (plus (total at left') (times factor (total at right'))))
  pub order : (least : ℕ) → IsLineFrom least left → IsLineFrom least right → IsNext least term left' right'
  pub left_tail : IsTail left left'
  pub right_tail : IsTail right right'
  pub shorter : length left' + length right' < length left + length right

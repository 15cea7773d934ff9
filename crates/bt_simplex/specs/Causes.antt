-- Why a number that a check asks for leaves 128 bits: an operation, its two numbers, and what they are of the solved
-- form.
use Rattle.std.specs.Prelude.{◌≡◌, ◌⊎◌, ◌<◌, pos, ◌<ℤ◌, List, ◌∷◌, ◌++◌, length, Some, ℕ}
use Rattle.bt_frac.specs.Ratio.{Ratio, SameRatio, IsLowest, IsLess, IsAtMost, negated}
use Rattle.bt_frac.specs.Rows.{RowParts}
use Rattle.bt_frac.specs.Values.{plus, times, sum_of_products}
use Rattle.bt_farkas.specs.WeightedRows.{part_of, pairs_at, number_of, coefficient_at}
use Rattle.bt_farkas.specs.Farkas.{IsFirstWide}
use Rattle.bt_farkas.specs.declared.places.Place.{Place}
use Rattle.bt_linear_forms.specs.Unfits.{IsNone}
use Rattle.bt_linear_forms.specs.Lines.{one, Terms, total}
use Rattle.bt_pivot.specs.SolvedForms.{slot_at}
use Rattle.bt_pivot.specs.Tableaus.{TableauParts}
use Rattle.bt_pivot.specs.Points.{bound_row, resting, point_at}
use Rattle.bt_simplex.specs.Pivots.{IsBlandPivot, IsMet, IsStuckAt}
use Rattle.bt_simplex.specs.Weights.{AreWeights, weighted_rows}
use Rattle.bt_pivot.specs.declared.basis.Pivot.{Pivot}
use Rattle.bt_linear_forms.specs.declared.unfit.Operation.{Operation}
use Rattle.bt_linear_forms.specs.declared.unfit.Operation.TheVariants.{Add, Mul, Div}
use Rattle.bt_pivot.specs.declared.causes.WidePlace.{WidePlace}
use Rattle.bt_pivot.specs.declared.causes.WidePlace.TheVariants.{Entry, Value, Settle, Lemma}
use Rattle.bt_pivot.specs.declared.causes.Cause.{Cause}
use Rattle.bt_pivot.specs.Entries.{IsEntryStep}

-- the fraction is this number, in lowest terms
abbrev pub IsNumber : Ratio → Ratio → Type 0
IsNumber fraction number = IsLowest fraction × SameRatio fraction number

-- the numbers of an operation for the sum of a line, where this stands at the positions: a product, or the sum of the
-- earlier ones and a product
abbrev pub IsSumStep : (ℕ → Ratio) → Terms → ℕ → Operation → Ratio → Ratio → Type 0
IsSumStep at terms column Mul left right = (coefficient_at column terms ≡ Some left) × (right ≡ at column)
IsSumStep at terms column Add left right =
    (front : Terms) × ((number : Ratio) × ((rest : Terms) × (terms ≡ front ++ (column, number) ∷ rest)
    × IsNumber left (total at front) × IsNumber right (times number (at column))))
IsSumStep at terms column Div left right = ⊥

-- the numbers of an operation for where a position of the basis stands, in one of both parts
abbrev pub IsValueStep : TableauParts → ℕ → ℕ → Operation → Ratio → Ratio → Type 0
IsValueStep t row column operation left right =
    (terms : Terms) × (slot_at t.slots row ≡ Some terms)
    × (IsSumStep (λ q. (resting t q).value) terms column operation left right ⊎ IsSumStep (λ q. (resting t q).tiny) terms column operation left right)

-- a bound row stands above its bound, and lower by a multiple of the infinitesimal: its point would reach the bound
-- where the infinitesimal grew
pub record IsFalling (t : TableauParts) (position : ℕ) : Type 0 where
  pub row : RowParts
  pub is_bound : bound_row t position ≡ Some row
  pub above : IsLess row.bound (point_at t position).value
  pub below : (point_at t position).tiny.over <ℤ pos 0

-- how far it stands above its bound
abbrev pub gap : {t : TableauParts} {position : ℕ} → IsFalling t position → Ratio
gap {t} {position} falls = plus (point_at t position).value (negated falls.row.bound)

-- half of what the infinitesimal may be
abbrev pub IsHalfRoom : TableauParts → ℕ → Ratio → Type 0
IsHalfRoom t position half =
    (falls : IsFalling t position) × SameRatio (times half (times (record { over = pos 2; under = 1 }) (negated (point_at t position).tiny))) (gap falls)

-- the number that takes the place of the infinitesimal: the least of 1 and of half of what each bound row lets it be
pub record IsEpsilon (t : TableauParts) (epsilon : Ratio) : Type 0 where
  pub lowest : IsLowest epsilon
  pub is : (epsilon ≡ one) ⊎ ((position : ℕ) × IsHalfRoom t position epsilon)
  pub at_most_one : IsAtMost epsilon one
  pub least : (position : ℕ) (half : Ratio) → 0 < half.under → IsHalfRoom t position half → IsAtMost epsilon half

-- the numbers of an operation for half of what a bound row lets the infinitesimal be
abbrev pub IsRoomStep : TableauParts → ℕ → Operation → Ratio → Ratio → Type 0
IsRoomStep t position Add left right = (falls : IsFalling t position) × IsNumber left (point_at t position).value × (right ≡ negated falls.row.bound)
IsRoomStep t position Div left right = (falls : IsFalling t position) × IsNumber left (gap falls) × IsNumber right (negated (point_at t position).tiny)
IsRoomStep t position Mul left right =
    (falls : IsFalling t position) × IsLowest left × SameRatio (times left (negated (point_at t position).tiny)) (gap falls) × (right ≡ record { over = pos 1; under = 2 })

-- the numbers of an operation for the value of a column
abbrev pub IsColumnStep : TableauParts → ℕ → Operation → Ratio → Ratio → Type 0
IsColumnStep t column Mul left right = (column < t.columns) × IsEpsilon t left × IsNumber right (point_at t column).tiny
IsColumnStep t column Add left right =
    (column < t.columns) × IsNumber left (point_at t column).value
    × ((epsilon : Ratio) × IsEpsilon t epsilon × IsNumber right (times epsilon (point_at t column).tiny))
IsColumnStep t column Div left right = ⊥

-- the numbers of an operation that adds a product to a sum
abbrev pub IsAddend : Operation → Ratio → Ratio → Ratio → Ratio → Ratio → Type 0
IsAddend Mul left right weight part sum = (left ≡ weight) × (right ≡ part)
IsAddend Add left right weight part sum = IsNumber left sum × IsNumber right (times weight part)
IsAddend Div left right weight part sum = ⊥

-- the numbers of an operation for the sum of weighted rows at a place, over the rows in their order
pub record IsRowStep (sum : List (RowParts × Ratio)) (row : ℕ) (place : Place) (operation : Operation) (left right : Ratio) : Type 0 where
  pub front : List (RowParts × Ratio)
  pub here : RowParts × Ratio
  pub rest : List (RowParts × Ratio)
  pub split : sum ≡ front ++ here ∷ rest
  pub number : row ≡ length front
  pub part : Ratio
  pub part_is : part_of place here.0 ≡ Some part
  pub step : IsAddend operation left right here.1 part (sum_of_products (pairs_at place front))

-- the numbers of the first operation that is None in the sum of the rows that the basis weighs
pub record IsLemmaStep (t : TableauParts) (fails row column : ℕ) (operation : Operation) (left right : Ratio) : Type 0 where
  pub weights : List (ℕ × Ratio)
  pub are_weights : AreWeights t fails weights
  pub first : IsFirstWide (weighted_rows t.rows weights) (record { row = row; column = column })
  pub place : Place
  pub column_is : column ≡ number_of (weighted_rows t.rows weights) place
  pub step : IsRowStep (weighted_rows t.rows weights) row place operation left right

-- what an operation was for at a tableau's basis
abbrev pub IsStepAt : TableauParts → WidePlace → ℕ → ℕ → Operation → Ratio → Ratio → Type 0
IsStepAt t Entry row column operation left right = (pivot : Pivot) × IsBlandPivot t pivot × IsEntryStep t.slots pivot row column operation left right
IsStepAt t Value row column operation left right = IsValueStep t row column operation left right
IsStepAt t Settle row column operation left right =
    IsMet t × (column ≡ 0) × (IsRoomStep t row operation left right ⊎ IsColumnStep t row operation left right)
IsStepAt t Lemma row column operation left right = (fails : ℕ) × IsStuckAt t fails × IsLemmaStep t fails row column operation left right

-- the operation is None, and its numbers are those of the tableau's basis
abbrev pub IsCause : TableauParts → Cause → Type 0
IsCause t cause =
    IsNone cause.operation cause.left cause.right × IsStepAt t cause.place cause.row cause.column cause.operation cause.left cause.right

-- What a check of a tableau answers.
use Rattle.std.specs.Prelude.{◌≡◌, ◌+◌, ◌<◌, ◌≤◌, List, ◌∷◌, length, Bool, true, false, slice_index_or, Ok, ℕ, []}
use Rattle.std.specs.List.{All}
use Rattle.bt_frac.specs.Ratio.{Ratio}
use Rattle.bt_frac.specs.Columns.{AreColumnsFrom}
use Rattle.bt_frac.specs.Rows.{columns_of}
use Rattle.bt_frac.specs.Values.{value_in, RowHolds}
use Rattle.bt_farkas.specs.Farkas.{IsFarkas}
use Rattle.bt_farkas.specs.WeightedRows.{empty_row}
use Rattle.bt_simplex.specs.Counting.{most_bases}
use Rattle.bt_pivot.specs.SolvedForms.{basis_of}
use Rattle.bt_pivot.specs.Tableaus.{TableauParts}
use Rattle.bt_simplex.specs.Pivots.{IsMet, IsStuckAt, Follows}
use Rattle.bt_simplex.specs.Runs.{GoesOn, LeadsTo}
use Rattle.bt_simplex.specs.Weights.{weighted_rows}
use Rattle.bt_simplex.specs.Causes.{IsCause}
use Rattle.bt_pivot.specs.declared.causes.Cause.{Cause}
use Rattle.bt_simplex.specs.declared.answers.PivotTrace.{PivotTrace}
use Rattle.bt_simplex.specs.declared.answers.Wide.{Wide}
use Rattle.bt_simplex.specs.declared.answers.Check.{Check}
use Rattle.bt_simplex.specs.declared.answers.Check.TheVariants.{Sat, Unsat, Pivots, Wide as TooWide}

-- the row is bound
abbrev pub IsBound : TableauParts → ℕ → Type 0
IsBound t row = slice_index_or t.bound row false ≡ true

-- the places from this one on at which a list tells that a row is bound, in ascending order
abbrev pub bound_from : ℕ → List Bool → List ℕ
bound_from row [] = []
bound_from row (false ∷ bound) = bound_from (row + 1) bound
bound_from row (true ∷ bound) = row ∷ bound_from (row + 1) bound

-- the values are one for each column, and every bound row holds of them
pub record MeetsBoundRows (t : TableauParts) (values : List Ratio) : Type 0 where
  pub columns : length values ≡ t.columns
  pub holds : (row : ℕ) → IsBound t row → RowHolds (slice_index_or t.rows row empty_row) (value_in values)

-- the rows ascend and are bound, and with their weights they add up to a row that no values meet, where each product
-- and each sum fits
pub record RefutesBoundRows (t : TableauParts) (weights : List (ℕ × Ratio)) : Type 0 where
  pub ascend : AreColumnsFrom 0 (columns_of weights)
  pub bound : All (λ w. IsBound t w.0) weights
  pub accepted : IsFarkas (weighted_rows t.rows weights) (Ok true)

-- the trace begins at the tableau's basis, with its bound rows
pub record StartsAt (t : TableauParts) (trace : PivotTrace) : Type 0 where
  pub start : trace.start.items ≡ basis_of t.slots
  pub bound : trace.bound.items ≡ bound_from 0 t.bound

-- the trace has so many pivots of Bland's rule, which are fewer than there are bases, and the basis that they lead to
-- isn't final
pub record IsPivots (pivots : ℕ) (t : TableauParts) (trace : PivotTrace) : Type 0 where
  pub starts : StartsAt t trace
  pub few : pivots < most_bases t.columns t.rows
  pub goes_on : GoesOn pivots t trace.steps.items

-- the operation and what it was for
abbrev pub cause_of : Wide → Cause
cause_of wide =
    record { place = wide.place; row = wide.row; column = wide.column; operation = wide.operation; left = wide.left; right = wide.right }

-- the trace has at most so many pivots of Bland's rule, which lead to the named basis, whose solved form has the two
-- numbers
pub record IsWideCheck (pivots : ℕ) (t : TableauParts) (wide : Wide) : Type 0 where
  pub starts : StartsAt t wide.trace
  pub few : length wide.trace.steps.items ≤ pivots
  pub last : TableauParts
  pub follows : Follows t wide.trace.steps.items last
  pub basis : wide.basis.items ≡ basis_of last.slots
  pub cause : IsCause last (cause_of wide)

-- what a check answers of a tableau before it and after it: after values and after weights the basis is the final one
-- to which Bland's pivots lead, at most so many, and otherwise the tableau is as before
abbrev pub IsCheck : ℕ → TableauParts → TableauParts → Check → Type 0
IsCheck pivots t t' (Sat values) = LeadsTo pivots t t' × IsMet t' × MeetsBoundRows t values.items
IsCheck pivots t t' (Unsat weights) = LeadsTo pivots t t' × ((position : ℕ) × IsStuckAt t' position) × RefutesBoundRows t weights.items
IsCheck pivots t t' (Pivots trace) = (t' ≡ t) × IsPivots pivots t trace
IsCheck pivots t t' (TooWide wide) = (t' ≡ t) × IsWideCheck pivots t wide

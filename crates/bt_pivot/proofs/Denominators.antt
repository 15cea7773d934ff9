-- What stands at the positions of rows.
use Rattle.std.proofs.Common.{◌-◌, arith, Bool, true, false, if◌then◌else◌, nat_lt, zero, suc, get_or, List, ◌∷◌, ℕ, []}
use Rattle.std.specs.List.{All}
use Rattle.std.proofs.lemmas.List.Elements.{All-head, All-tail}
use Rattle.bt_frac.specs.Ratio.{Ratio, IsLowest}
use Rattle.bt_frac.specs.Rows.{RowParts, IsRow}
use Rattle.bt_frac.specs.Values.{AreValues, times}
use Rattle.bt_farkas.specs.WeightedRows.{empty_row}
use Rattle.bt_linear_forms.specs.Lines.{Terms, total}
use Rattle.bt_pivot.specs.SolvedForms.{at_position}
use Rattle.bt_linear_forms.proofs.Numbers.{Positive, plus_positive, times_positive}

row_some : (at : ℕ → Ratio) → AreValues at → (terms : Terms) → All (λ t. IsLowest t.1) terms → Positive (total at terms)
row_some at values [] all = omega arith
row_some at values (t ∷ terms) all =
    let here = All-head (λ u. IsLowest u.1) t terms all in
    plus_positive (times t.1 (at t.0)) (total at terms) (times_positive t.1 (at t.0) here.positive (values t.0)) (row_some at values terms (All-tail (λ u. IsLowest u.1) t terms all))

row_at_some : (rows : List RowParts) (i : ℕ) (at : ℕ → Ratio) → AreValues at → All IsRow rows → Positive (total at (get_or rows i empty_row).terms)
row_at_some [] i at values all = omega arith
row_at_some (row ∷ rows) zero at values all = row_some at values row.terms (All-head IsRow row rows all).coefficients
row_at_some (row ∷ rows) (suc i) at values all = row_at_some rows i at values (All-tail IsRow row rows all)

-- what stands at the positions is over positive denominators
pub stands_some : (rows : List RowParts) (columns : ℕ) → All IsRow rows → (values : ℕ → Ratio) → AreValues values → AreValues (at_position rows columns values)
stands_some rows columns all values some p = chosen (nat_lt p columns)
  where
    chosen : (b : Bool) → Positive (if b then values p else total values (get_or rows (p - columns) empty_row).terms)
    chosen true = some p
    chosen false = row_at_some rows (p - columns) values some all

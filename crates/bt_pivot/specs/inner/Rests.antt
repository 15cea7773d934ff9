-- Where the positions of a tableau rest, as whole numbers.
use Rattle.std.specs.Prelude.{◌≡◌, ◌+◌, pos, List, length, Option, None, IfSome, slice_index_or, ℕ}
use Rattle.bt_frac.specs.Rows.{RowParts}
use Rattle.bt_frac.specs.declared.delta.Delta.{Delta}
use Rattle.bt_pivot.specs.Points.{bound_row, value_or_zero, relation_of}
use Rattle.bt_pivot.specs.Tableaus.{TableauParts}
use Rattle.bt_pivot.specs.declared.rests.Rest.{Rest}

-- the point of these whole numbers
abbrev pub rest_point : Rest → Delta
rest_point rest = record { value = record { over = rest.value; under = 1 }; tiny = record { over = rest.tiny; under = 1 } }

-- where a position rests that is no bound row
abbrev pub nowhere : Rest
nowhere = record { value = pos 0; tiny = pos 0; relation = None }

-- where a position rests that is this bound row, or none
abbrev pub IsRestOf : Option RowParts → Rest → Type 0
IsRestOf row rest = (value_or_zero row ≡ rest_point rest) × (rest.relation ≡ relation_of row)

-- for each position the whole numbers where it rests, or none
abbrev pub AreRests : TableauParts → List (Option Rest) → Type 0
AreRests t rests =
    (length rests ≡ t.columns + length t.rows)
    × ((position : ℕ) → IfSome (slice_index_or rests position None) (IsRestOf (bound_row t position)))

-- Which row's parts are kept.
use Rattle.std.specs.Prelude.{ℤ}
use Rattle.bt_frac.specs.Ratio.{Ratio}
use Rattle.bt_frac.specs.Rows.{RowParts}
use Rattle.bt_frac.specs.declared.stored_row.StoredRow.{StoredRow}
use Rattle.bt_frac.specs.declared.stored_row.StoredRow.TheVariants.{One, Two, Many}

-- a whole number as a fraction
abbrev pub whole_ratio : ℤ → Ratio
whole_ratio n = record { over = n; under = 1 }

-- the parts of the row
abbrev pub parts_of : StoredRow → RowParts
parts_of (One relation bound terms) = record { terms = terms; relation = relation; bound = whole_ratio bound }
parts_of (Two relation bound terms) = record { terms = terms; relation = relation; bound = whole_ratio bound }
parts_of (Many relation terms bound) = record { terms = terms.items; relation = relation; bound = bound }

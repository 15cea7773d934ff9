use Rattle.bt_farkas.proofs.ColumnLemmas.{Looks}
use Rattle.std.proofs.Common.{drop}
use Rattle.bt_frac.specs.Rows.{columns_of}
use Rattle.bt_farkas.proofs.places.least_column.Given as goal

abbrev pub invariant-loop-column : goal.invariant-loop-column
invariant-loop-column l = Looks l.least (columns_of l.terms) (columns_of (drop l.column-index l.terms))

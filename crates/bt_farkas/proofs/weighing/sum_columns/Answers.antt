use Rattle.std.proofs.Common.{arith, sym, ap, subst}
use Rattle.bt_frac.specs.Rows.{columns_in}
use Rattle.bt_farkas.specs.WeightedRows.{picked, weighted}
use Rattle.bt_farkas.specs.inner.Totals.{AreColumnsBelow}
use Rattle.bt_farkas.proofs.FarkasLemmas.{no_columns, columns_more}
use Rattle.bt_farkas.proofs.WeightedLemmas.{length-weighted, rows_of_weighted}
use Rattle.bt_farkas.proofs.weighing.sum_columns.Goals as goal

pub loop-column-init : goal.loop-column-init
loop-column-init c =
    let rows = c.args.rows.now in
    let picks = c.args.picks.now in
    let weights = c.args.weights.now in
    subst (AreColumnsBelow (weighted rows picks weights) (columns_in (picked rows picks))) (sym c.no_columns-columns.ensures)
    (no_columns (weighted rows picks weights) (columns_in (picked rows picks)) _ (sym (length-weighted rows picks weights c.requires.weights)))

pub total-sum-requires-clause-within : goal.total-sum-requires-clause-within
total-sum-requires-clause-within c =
    omega (arith, length-weighted c.args.rows.now c.args.picks.now c.args.weights.now c.requires.weights, c.loop-column.invariant.within)

pub loop-column-preserved : goal.loop-column-preserved
loop-column-preserved c =
    let rows = c.args.rows.now in
    let picks = c.args.picks.now in
    let weights = c.args.weights.now in
    columns_more (weighted rows picks weights) (columns_in (picked rows picks)) (ap columns_in (rows_of_weighted rows picks weights c.requires.weights)) c.loop-column.columns
    c.loop-column.invariant c.in-Some.column c.in-Some.ensures.least c.total-sum.result c.total-sum.ensures c.after_column-columns.result c.after_column-columns.ensures

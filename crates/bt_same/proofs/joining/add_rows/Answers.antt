use Rattle.bt_same.specs.inner.Joining.{rows_of}
use Rattle.bt_same.proofs.Joined.{taken_row}
use Rattle.bt_same.proofs.joining.add_rows.Goals as goal

pub loop-row-preserved : goal.loop-row-preserved
loop-row-preserved c =
    taken_row c.args.columns (rows_of c.args.part.now) c.rows-row-items.result.now c.args.formula.now c.loop-row.formula c.add_atom.new.self c.loop-row.row-index c.row-item.result c.in_ok-moved.moved
    c.rows-row-items.ensures.value c.loop-row-test.true c.row-item.is c.in_ok-moved.ensures c.loop-row.invariant c.in_ok-add_atom.ensures.1

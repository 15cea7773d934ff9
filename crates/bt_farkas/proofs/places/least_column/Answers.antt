use Rattle.bt_farkas.proofs.ColumnLemmas.{looks_more, looks_found, looks_none}
use Rattle.bt_farkas.proofs.places.least_column.Goals as goal

pub returns-then-least-column-clause-least : goal.returns-then-least-column-clause-least
returns-then-least-column-clause-least c =
    (looks_found c.args.least c.args.terms.now c.loop-column.column-index c.loop-column-item.result c.loop-column-test.true c.loop-column-item.is c.if-least-column.true c.loop-column.invariant).0

pub loop-column-preserved : goal.loop-column-preserved
loop-column-preserved c =
    looks_more c.args.least c.args.terms.now c.loop-column.column-index c.loop-column-item.result c.loop-column-test.true c.loop-column-item.is c.if-least-column.false c.loop-column.invariant

pub returns-clause-least : goal.returns-clause-least
returns-clause-least c = looks_none c.args.least c.args.terms.now c.loop-column.column-index c.loop-column-test.false c.loop-column.invariant

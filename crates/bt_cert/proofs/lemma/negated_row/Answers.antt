use Rattle.bt_cert.proofs.AtomRows.{negated_row}
use Rattle.bt_cert.proofs.lemma.negated_row.Goals as goal

pub returns : goal.returns
returns c = negated_row c.args.formula.now c.args.lit c.row_of.result c.if-lit.false c.row_of.ensures

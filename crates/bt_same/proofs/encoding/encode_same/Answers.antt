use Rattle.bt_same.proofs.Sides.{joined}
use Rattle.bt_same.proofs.encoding.encode_same.Goals as goal

pub returns-clause-formula : goal.returns-clause-formula
returns-clause-formula c = joined c.args.first.now c.args.second.now c.in_ok-formula.formula c.add_difference.new.formula c.in_ok-formula.ensures.formula c.in_ok-add_difference.ensures

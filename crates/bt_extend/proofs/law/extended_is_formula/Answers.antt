use Rattle.bt_extend.proofs.Formed.{extended_is_formula}
use Rattle.bt_extend.proofs.law.extended_is_formula.Goals as goal

pub returns : goal.returns
returns c = extended_is_formula

use Rattle.bt_top.proofs.RecheckedPairs.{same_is_checked, difference_is_checked}
use Rattle.bt_top.proofs.law.compared_is_checked.Goals as goal

pub returns-clause-same : goal.returns-clause-same
returns-clause-same c = same_is_checked

pub returns-clause-pair : goal.returns-clause-pair
returns-clause-pair c = difference_is_checked

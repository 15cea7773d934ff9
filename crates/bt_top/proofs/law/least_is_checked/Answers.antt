use Rattle.bt_top.proofs.RecheckedLeast as proved
use Rattle.bt_top.proofs.law.least_is_checked.Goals as goal

pub returns : goal.returns
returns c = proved.least_is_checked

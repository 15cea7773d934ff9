use Rattle.bt_top.proofs.RecheckedLayouts.{none_is_checked}
use Rattle.bt_top.proofs.law.laid_out_is_checked.Goals as goal

pub returns : goal.returns
returns c = none_is_checked

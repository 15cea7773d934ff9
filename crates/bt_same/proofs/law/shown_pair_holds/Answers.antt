use Rattle.bt_same.proofs.Shown as proved
use Rattle.bt_same.proofs.law.shown_pair_holds.Goals as goal

pub returns : goal.returns
returns c = proved.shown_pair_holds

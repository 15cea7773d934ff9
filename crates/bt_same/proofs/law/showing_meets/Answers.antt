use Rattle.bt_same.proofs.Showing as proved
use Rattle.bt_same.proofs.law.showing_meets.Goals as goal

pub returns : goal.returns
returns c = proved.showing_meets

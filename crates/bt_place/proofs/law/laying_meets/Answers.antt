use Rattle.bt_place.proofs.Laying as proved
use Rattle.bt_place.proofs.law.laying_meets.Goals as goal

pub returns : goal.returns
returns c = proved.laying_meets

use Rattle.bt_same.proofs.Decided as proved
use Rattle.bt_same.proofs.law.same_exactly.Goals as goal

pub returns : goal.returns
returns c = proved.same_exactly

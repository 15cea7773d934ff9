use Rattle.bt_same.proofs.Refuted as proved
use Rattle.bt_same.proofs.law.refuted_are_same.Goals as goal

pub returns : goal.returns
returns c = proved.refuted_are_same

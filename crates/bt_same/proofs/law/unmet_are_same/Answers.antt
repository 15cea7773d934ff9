use Rattle.bt_same.proofs.Refuted
use Rattle.bt_same.proofs.law.unmet_are_same.Goals as goal

pub returns : goal.returns
returns c = Refuted.unmet_are_same

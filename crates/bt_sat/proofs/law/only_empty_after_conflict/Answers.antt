use Rattle.bt_sat.proofs.Conflicting
use Rattle.bt_sat.proofs.law.only_empty_after_conflict.Goals as goal

pub returns : goal.returns
returns c = Conflicting.only_empty_after_conflict

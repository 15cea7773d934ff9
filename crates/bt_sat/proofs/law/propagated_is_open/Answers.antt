use Rattle.bt_sat.proofs.Open as Open
use Rattle.bt_sat.proofs.law.propagated_is_open.Goals as goal

pub returns : goal.returns
returns c = Open.propagated_is_open

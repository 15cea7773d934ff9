use Rattle.bt_sat.proofs.Counting
use Rattle.bt_sat.proofs.law.fresh_steps_are_few.Goals as goal

pub returns : goal.returns
returns c = Counting.fresh_steps_are_few

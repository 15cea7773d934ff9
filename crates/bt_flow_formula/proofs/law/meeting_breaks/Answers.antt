use Rattle.bt_flow_formula.proofs.Solved as proved
use Rattle.bt_flow_formula.proofs.law.meeting_breaks.Goals as goal

pub returns : goal.returns
returns c = proved.meeting_breaks

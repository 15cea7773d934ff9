use Rattle.bt_flow_formula.proofs.Solved as proved
use Rattle.bt_flow_formula.proofs.law.meeting_is_steady.Goals as goal

pub returns : goal.returns
returns c = proved.meeting_is_steady

use Rattle.bt_flow_formula.proofs.Breaking as proved
use Rattle.bt_flow_formula.proofs.law.breaking_is_met.Goals as goal

pub returns : goal.returns
returns c = proved.breaking_is_met

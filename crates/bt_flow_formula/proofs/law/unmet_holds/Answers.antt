use Rattle.bt_flow_formula.proofs.Refuted as proved
use Rattle.bt_flow_formula.proofs.law.unmet_holds.Goals as goal

pub returns : goal.returns
returns c = proved.unmet_holds

use Rattle.bt_flow_formula.proofs.TrueClaims as proved
use Rattle.bt_flow_formula.proofs.law.true_claims_meet.Goals as goal

pub returns : goal.returns
returns c = proved.true_claims_meet

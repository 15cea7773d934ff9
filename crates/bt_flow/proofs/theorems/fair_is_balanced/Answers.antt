use Rattle.bt_flow.proofs.FairBalanced as proved
use Rattle.bt_flow.proofs.theorems.fair_is_balanced.Goals as goal

pub returns : goal.returns
returns c = proved.fair_is_balanced

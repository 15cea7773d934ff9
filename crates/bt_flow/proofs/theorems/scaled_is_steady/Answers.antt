use Rattle.bt_flow.proofs.Scaled as proved
use Rattle.bt_flow.proofs.theorems.scaled_is_steady.Goals as goal

pub returns : goal.returns
returns c = proved.scaled_is_steady

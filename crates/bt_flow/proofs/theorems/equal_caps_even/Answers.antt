use Rattle.bt_flow.proofs.EqualCaps as proved
use Rattle.bt_flow.proofs.theorems.equal_caps_even.Goals as goal

pub returns : goal.returns
returns c = proved.equal_caps_even

use Rattle.bt_flow.proofs.FewerLaws as proved
use Rattle.bt_flow.proofs.theorems.fewer_laws.Goals as goal

pub returns : goal.returns
returns c = proved.fewer_laws

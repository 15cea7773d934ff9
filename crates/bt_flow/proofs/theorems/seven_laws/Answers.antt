use Rattle.bt_flow.proofs.SevenLaws as proved
use Rattle.bt_flow.proofs.theorems.seven_laws.Goals as goal

pub returns : goal.returns
returns c = proved.seven_laws

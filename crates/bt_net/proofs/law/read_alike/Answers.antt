use Rattle.bt_net.proofs.ReadAlike as proved
use Rattle.bt_net.proofs.law.read_alike.Goals as goal

pub returns : goal.returns
returns c = proved.read_alike

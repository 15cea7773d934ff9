use Rattle.bt_net.proofs.OneReading.{one_network}
use Rattle.bt_net.proofs.law.one_net.Goals as goal

pub returns : goal.returns
returns c = one_network

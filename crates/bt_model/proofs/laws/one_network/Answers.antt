use Rattle.bt_model.proofs.OneNetwork.{same_network, same_naming}
use Rattle.bt_model.proofs.laws.one_network.Goals as goal

pub returns-clause-net : goal.returns-clause-net
returns-clause-net c = same_network

pub returns-clause-naming : goal.returns-clause-naming
returns-clause-naming c = same_naming

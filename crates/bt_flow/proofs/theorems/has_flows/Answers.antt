use Rattle.bt_flow.proofs.Denominators.{some_flows}
use Rattle.bt_flow.proofs.theorems.has_flows.Goals as goal

pub returns : goal.returns
returns c = some_flows

use Rattle.bt_json.proofs.Longer.{value_stays, fault_stays}
use Rattle.bt_json.proofs.law.longer_is_read.Goals as goal

pub returns-clause-value : goal.returns-clause-value
returns-clause-value c = value_stays

pub returns-clause-fault : goal.returns-clause-fault
returns-clause-fault c = fault_stays

use Rattle.bt_net.proofs.PrintedNets.{printed_plain, printed_reading}
use Rattle.bt_net.proofs.law.printed_is_read.Goals as goal

pub returns-clause-read : goal.returns-clause-read
returns-clause-read c = printed_reading

pub returns-clause-plain : goal.returns-clause-plain
returns-clause-plain c = printed_plain

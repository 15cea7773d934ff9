use Rattle.bt_net.proofs.Longer.{reading_stays, stays_refused}
use Rattle.bt_net.proofs.law.longer_is_read.Goals as goal

pub returns-clause-read : goal.returns-clause-read
returns-clause-read c = reading_stays

pub returns-clause-refused : goal.returns-clause-refused
returns-clause-refused c = stays_refused

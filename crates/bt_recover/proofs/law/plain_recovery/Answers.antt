use Rattle.bt_recover.proofs.PreferLemmas.{plain_recovery}
use Rattle.bt_recover.proofs.law.plain_recovery.Goals as goal

pub returns : goal.returns
returns c = plain_recovery

use Rattle.bt_log.proofs.Sound
use Rattle.bt_log.proofs.law.refuted_is_unmet.Goals as goal

pub returns : goal.returns
returns c = Sound.refuted_is_unmet

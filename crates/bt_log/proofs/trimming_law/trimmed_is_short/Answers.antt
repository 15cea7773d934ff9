use Rattle.bt_log.proofs.Valid.{trimmed_is_short as shown}
use Rattle.bt_log.proofs.trimming_law.trimmed_is_short.Goals as goal

pub returns : goal.returns
returns c = shown

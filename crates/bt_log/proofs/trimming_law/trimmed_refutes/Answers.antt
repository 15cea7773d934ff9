use Rattle.bt_log.proofs.Valid.{trimmed_refutes as shown}
use Rattle.bt_log.proofs.trimming_law.trimmed_refutes.Goals as goal

pub returns : goal.returns
returns c = shown

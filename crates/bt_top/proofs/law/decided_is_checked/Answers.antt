use Rattle.bt_top.proofs.Rechecked.{proof_is_checked, state_is_checked}
use Rattle.bt_top.proofs.law.decided_is_checked.Goals as goal

pub returns-clause-proved : goal.returns-clause-proved
returns-clause-proved c = proof_is_checked

pub returns-clause-state : goal.returns-clause-state
returns-clause-state c = state_is_checked

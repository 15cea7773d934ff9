use Rattle.bt_rules.proofs.Laying as proved
use Rattle.bt_rules.proofs.law.laying_keeps.Goals as goal

pub returns : goal.returns
returns c = proved.laying_keeps

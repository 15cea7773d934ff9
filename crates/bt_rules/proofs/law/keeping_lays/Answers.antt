use Rattle.bt_rules.proofs.kept.Keeping as proved
use Rattle.bt_rules.proofs.law.keeping_lays.Goals as goal

pub returns : goal.returns
returns c = proved.keeping_lays

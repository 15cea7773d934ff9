use Rattle.bt_rules.proofs.RulesWithin as proved
use Rattle.bt_rules.proofs.law.rules_are_within.Goals as goal

pub returns : goal.returns
returns c = proved.rules_within

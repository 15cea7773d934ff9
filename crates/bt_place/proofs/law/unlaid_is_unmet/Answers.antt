use Rattle.bt_place.proofs.Unlaid as proved
use Rattle.bt_place.proofs.law.unlaid_is_unmet.Goals as goal

pub returns : goal.returns
returns c = proved.unlaid_is_unmet

use Rattle.bt_top.proofs.NoneCertified as proved
use Rattle.bt_top.proofs.law.none_is_accepted.Goals as goal

pub returns : goal.returns
returns c = proved.none_is_accepted

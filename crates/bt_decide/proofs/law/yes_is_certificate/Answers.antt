use Rattle.bt_decide.proofs.Certified as proved
use Rattle.bt_decide.proofs.law.yes_is_certificate.Goals as goal

pub returns : goal.returns
returns c = proved.yes_is_certificate

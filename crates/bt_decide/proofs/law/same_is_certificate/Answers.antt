use Rattle.bt_decide.proofs.Certified as proved
use Rattle.bt_decide.proofs.law.same_is_certificate.Goals as goal

pub returns : goal.returns
returns c = proved.same_is_certificate

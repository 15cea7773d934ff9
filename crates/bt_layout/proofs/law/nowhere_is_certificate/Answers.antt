use Rattle.bt_layout.proofs.Certified as proved
use Rattle.bt_layout.proofs.law.nowhere_is_certificate.Goals as goal

pub returns : goal.returns
returns c = proved.nowhere_is_certificate

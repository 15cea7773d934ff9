use Rattle.bt_cert.proofs.Printed.{printed_is_certificate}
use Rattle.bt_cert.proofs.law.printed_is_certificate.Goals as goal

pub returns : goal.returns
returns c = printed_is_certificate

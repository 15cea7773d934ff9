use Rattle.bt_cert.proofs.Earlier.{log_is_certificate}
use Rattle.bt_cert.proofs.law.log_is_certificate.Goals as goal

pub returns : goal.returns
returns c = log_is_certificate

use Rattle.bt_cert.proofs.OneAnswer.{certificate_shows_unmet}
use Rattle.bt_cert.proofs.law.certificate_shows_unmet.Goals as goal

pub returns : goal.returns
returns c = certificate_shows_unmet

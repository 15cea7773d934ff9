use Rattle.bt_cert.proofs.Printed.{text_tells_log}
use Rattle.bt_cert.proofs.law.text_tells_log.Goals as goal

pub returns : goal.returns
returns c = text_tells_log

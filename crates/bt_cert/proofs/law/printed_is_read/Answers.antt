use Rattle.bt_cert.proofs.Printed.{printed_is_read}
use Rattle.bt_cert.proofs.law.printed_is_read.Goals as goal

pub returns : goal.returns
returns c = printed_is_read

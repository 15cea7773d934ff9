use Rattle.bt_flow.proofs.Printed.{printed_is_read}
use Rattle.bt_flow.proofs.printing.printed_state_is_read.Goals as goal

pub returns : goal.returns
returns c = printed_is_read

use Rattle.std.proofs.Common.{pos}
use Rattle.bt_flow.proofs.Compared.{at_none}
use Rattle.bt_flow.proofs.compare.is_nothing.Goals as goal

pub returns : goal.returns
returns c = λ x d some e. c.is_same.ensures x (pos 0) d some e (at_none c.cap_of.result d c.cap_of.ensures)

use Rattle.std.proofs.Common.{pos, ◌*◌}
use Rattle.bt_flow.proofs.Compared.{at_cap}
use Rattle.bt_flow.proofs.compare.is_full.Goals as goal

pub returns : goal.returns
returns c = λ x d some e. c.is_same.ensures x (pos (c.args.cap * d)) d some e (at_cap c.cap_of.result c.args.cap d c.cap_of.ensures)

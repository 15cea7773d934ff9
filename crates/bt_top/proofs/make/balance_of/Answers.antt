use Rattle.std.proofs.Common.{Ok, ap}
use Rattle.bt_top.proofs.make.balance_of.Goals as goal

pub returns-in-Ok : goal.returns-in-Ok
returns-in-Ok g c = (c.in-Ok.verdict, c.in-Ok.ensures, ap Ok c.balance_told.ensures)

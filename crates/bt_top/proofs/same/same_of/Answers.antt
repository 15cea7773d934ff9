use Rattle.std.proofs.Common.{Ok, ap}
use Rattle.bt_top.proofs.same.same_of.Goals as goal

pub returns-in-Ok : goal.returns-in-Ok
returns-in-Ok g c = (c.in-Ok.verdict, c.in-Ok.ensures, ap Ok c.same_told.ensures)

use Rattle.std.proofs.Common.{refl}
use Rattle.bt_flow.proofs.reading.line.next_line.Goals as goal

pub returns-in-Some-clause-ok : goal.returns-in-Some-clause-ok
returns-in-Some-clause-ok c = c.in-Some.ensures.some

pub returns-in-None-clause-err : goal.returns-in-None-clause-err
returns-in-None-clause-err c = (refl, c.in-None.ensures.none)

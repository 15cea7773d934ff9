use Rattle.bt_frac.proofs.Divisions.{some_division, no_division}
use Rattle.bt_frac.proofs.frac.Frac.div.Goals as goal

pub returns-clause-some : goal.returns-clause-some
returns-clause-some c = some_division _ _ _ _ c.inverse.ensures.lowest c.inverse.ensures.inverse c.mul.ensures.some

pub returns-clause-none : goal.returns-clause-none
returns-clause-none c = no_division _ _ _ _ c.inverse.ensures.known c.inverse.ensures.inverse c.mul.ensures.none

use Rattle.std.proofs.Common.{subst}
use Rattle.bt_theory.specs.inner.Goals.{IsTried}
use Rattle.bt_theory.proofs.Goals.{goals_end}
use Rattle.bt_theory.proofs.solving.by_goals.Goals as goal

pub returns-in-Some : goal.returns-in-Some
returns-in-Some g c =
    let old = c.args.solver.now.kernel in
    let new = c.try_goals.new.solver.kernel in
    goals_end c.args.pivots c.args.base.now old new c.args.tables.now.tableau c.in-Some.end (subst (IsTried c.args.pivots old new) c.in-Some.is c.in_ok-end.ensures.tried)

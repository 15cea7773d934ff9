use Rattle.std.proofs.Common.{sym, subst}
use Rattle.std.specs.Prelude.{Ok, Err}
use Rattle.bt_recover.specs.Recovered.{IsRecovered}
use Rattle.bt_recover.proofs.OneRecovery.{recovery_answers}
use Rattle.bt_recover.proofs.PreferLemmas.{found_recovered}
use Rattle.bt_recover.proofs.recovery.recover.Goals as goal

pub returns-in-Ok : goal.returns-in-Ok
returns-in-Ok c =
    recovery_answers c.args.grid.now (Ok _)
    (subst (λ found. IsRecovered c.args.grid.now (Ok found)) (sym c.told_as.ensures) (found_recovered c.args.grid.now c.in-Ok.field-0 c.in-Ok.ensures))

pub returns : goal.returns
returns c = recovery_answers c.args.grid.now (Err c.in-Err.fault) c.in-Err.ensures

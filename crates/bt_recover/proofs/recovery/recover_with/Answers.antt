use Rattle.std.specs.Prelude.{Err}
use Rattle.bt_text.specs.Answers.{seen}
use Rattle.bt_recover.specs.Recovered.{network_and_naming}
use Rattle.bt_recover.proofs.PreferLemmas.{recovery_with_answers}
use Rattle.bt_recover.proofs.recovery.recover_with.Goals as goal

pub returns-in-Ok : goal.returns-in-Ok
returns-in-Ok c = recovery_with_answers c.args.grid.now c.args.priorities.now (seen network_and_naming c.preferring.result) c.preferring.ensures

pub returns-in-Err : goal.returns-in-Err
returns-in-Err c = recovery_with_answers c.args.grid.now c.args.priorities.now (Err c.in-Err.fault) c.in-Err.ensures

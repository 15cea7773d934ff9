use Rattle.std.proofs.Common.{arith}
use Rattle.bt_layout.proofs.Taken.{paid}
use Rattle.bt_layout.proofs.progress.with_layout.Goals as goal

pub returns-clause-progress : goal.returns-clause-progress
returns-clause-progress c = λ requests learnt is are laid.
    let after = paid learnt c.args.progress.steps c.args.steps c.saturating_add.result _ c.saturating_add.ensures (omega arith) are in
    record { found = laid; few = after.1 }

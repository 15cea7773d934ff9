use Rattle.std.proofs.Common.{arith}
use Rattle.bt_layout.proofs.Taken.{paid}
use Rattle.bt_layout.proofs.progress.with_steps.Goals as goal

pub returns-clause-progress : goal.returns-clause-progress
returns-clause-progress c = λ requests learnt is are.
    let after = paid learnt c.args.progress.steps c.args.steps c.saturating_add.result _ c.saturating_add.ensures (omega arith) are in
    record { found = is.found; few = after.1 }

pub returns-clause-steps : goal.returns-clause-steps
returns-clause-steps c = λ learnt are.
    let few = are.few in
    let limit = are.limit in
    let sum = c.saturating_add.ensures in
    omega (arith, few, limit, sum)

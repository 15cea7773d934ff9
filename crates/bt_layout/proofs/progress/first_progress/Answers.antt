use Rattle.std.proofs.Common.{arith}
use Rattle.bt_layout.proofs.progress.first_progress.Goals as goal

pub returns : goal.returns
returns c = λ requests learnt. record { found = tt; few = omega arith }

use Rattle.std.proofs.Common.{arith}
use Rattle.bt_layout.proofs.sketched.look_by_sketch.Goals as goal

pub returns-in-None : goal.returns-in-None
returns-in-None c = (tt, omega arith)

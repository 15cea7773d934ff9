use Rattle.std.proofs.Common.{arith}
use Rattle.bt_net.proofs.Spelling.{cap_apart}
use Rattle.bt_net.proofs.words.read_cap.Goals as goal

pub returns-in_default-clause-none : goal.returns-in_default-clause-none
returns-in_default-clause-none c = λ cap small is.
    omega (arith, small.0, small.1, cap_apart c.args.word.now c.in_ok-cap.cap cap c.in_ok-cap.ensures.some (omega arith) small is)

pub returns-in_default-2-clause-none : goal.returns-in_default-2-clause-none
returns-in_default-2-clause-none c = λ cap small is.
    omega (arith, small.0, small.1, cap_apart c.args.word.now c.in_ok-cap.cap cap c.in_ok-cap.ensures.some (omega arith) small is)

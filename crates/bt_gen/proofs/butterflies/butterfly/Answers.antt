use Rattle.std.proofs.Common.{arith}
use Rattle.bt_gen.proofs.Wired.{butterfly_is_network}
use Rattle.bt_gen.proofs.Balanced.{butterfly_is_balanced}
use Rattle.bt_gen.proofs.butterflies.butterfly.Goals as goal

pub made-requires : goal.made-requires
made-requires c =
    rw (c.power-lines.ensures.power, c.power.ensures.power, c.in_ok-edges.ensures) (butterfly_is_network c.args.order (omega arith, omega arith))

pub returns-clause-balanced : goal.returns-clause-balanced
returns-clause-balanced c =
    rw (c.made.ensures, c.power-lines.ensures.power, c.power.ensures.power, c.in_ok-edges.ensures) (butterfly_is_balanced c.args.order (omega arith, omega arith))

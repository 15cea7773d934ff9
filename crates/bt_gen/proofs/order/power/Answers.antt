use Rattle.std.proofs.Common.{arith}
use Rattle.bt_gen.proofs.Rows.{power_small}
use Rattle.bt_gen.proofs.order.power.Goals as goal

pub returns-clause-small : goal.returns-clause-small
returns-clause-small c =
    omega (arith, power_small c.args.exponent c.requires)

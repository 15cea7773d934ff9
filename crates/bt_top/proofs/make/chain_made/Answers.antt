use Rattle.std.proofs.Common.{refl, alloc_error}
use Rattle.bt_gen.specs.declared.chains.TheConstants.{MOST_IN_CHAIN}
use Rattle.bt_gen.specs.declared.fault.GenFault.TheVariants.{Memory}
use Rattle.bt_gen.specs.Chain.{chain_net}
use Rattle.bt_gen.specs.Orders.{IsGenerated}
use Rattle.bt_top.specs.Making.{IsBalanceDecided}
use Rattle.bt_designs.proofs.InTurns.{stops, went}
use Rattle.bt_print.specs.Replies.{gen_told}
use Rattle.bt_top.proofs.make.chain_made.Goals as goal

pub returns-in-Ok : goal.returns-in-Ok
returns-in-Ok g c =
    went alloc_error (IsGenerated MOST_IN_CHAIN chain_net c.args.order) gen_told (IsBalanceDecided c.args.order c.args.limits) c.in-Ok.net
    c.balance_of.result c.in-Ok.ensures.right c.balance_of.ensures

pub returns-in-Err : goal.returns-in-Err
returns-in-Err g c =
    stops Memory alloc_error (IsGenerated MOST_IN_CHAIN chain_net c.args.order) gen_told (IsBalanceDecided c.args.order c.args.limits) c.in-Err.fault
    c.ungenerated.result refl c.in-Err.ensures.right c.ungenerated.ensures

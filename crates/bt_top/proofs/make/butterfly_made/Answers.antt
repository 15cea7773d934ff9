use Rattle.std.proofs.Common.{Ok, ap, refl, alloc_error}
use Rattle.bt_gen.specs.declared.butterflies.TheConstants.{MOST_STAGES}
use Rattle.bt_gen.specs.declared.fault.GenFault.TheVariants.{Memory}
use Rattle.bt_gen.specs.Butterfly.{butterfly_net}
use Rattle.bt_gen.specs.Orders.{IsGenerated}
use Rattle.bt_top.specs.Making.{IsSaidBalanced}
use Rattle.bt_designs.proofs.InTurns.{stops, went}
use Rattle.bt_print.specs.Replies.{gen_told}
use Rattle.bt_top.proofs.make.butterfly_made.Goals as goal

pub returns-in-Ok : goal.returns-in-Ok
returns-in-Ok c =
    went alloc_error (IsGenerated MOST_STAGES butterfly_net c.args.order) gen_told (IsSaidBalanced c.args.order) c.in-Ok.net
    (Ok c.made_of.result) c.in-Ok.ensures.answers.right (c.in-Ok.ensures.balanced, ap Ok c.made_of.ensures)

pub returns-in-Err : goal.returns-in-Err
returns-in-Err c =
    stops Memory alloc_error (IsGenerated MOST_STAGES butterfly_net c.args.order) gen_told (IsSaidBalanced c.args.order) c.in-Err.fault
    c.ungenerated.result refl c.in-Err.ensures.answers.right c.ungenerated.ensures

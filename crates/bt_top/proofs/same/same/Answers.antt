use Rattle.std.proofs.Common.{refl, alloc_error}
use Rattle.bt_designs.specs.declared.fault.DesignFault.TheVariants.{Memory}
use Rattle.bt_top.specs.Comparing.{IsCompared}
use Rattle.bt_print.specs.Replies.{design_told}
use Rattle.bt_designs.specs.TwoDesigns.{IsTwoNets}
use Rattle.bt_designs.proofs.InTurns.{stops, went}
use Rattle.bt_top.proofs.same.same.Goals as goal

pub returns-in-Ok : goal.returns-in-Ok
returns-in-Ok g c =
    went alloc_error (IsTwoNets c.args.bytes.now) design_told (IsCompared c.args.limits) (c.in-Ok.first, c.in-Ok.second) c.same_of.result c.in-Ok.ensures.nets c.same_of.ensures

pub returns-in-Err : goal.returns-in-Err
returns-in-Err g c =
    stops Memory alloc_error (IsTwoNets c.args.bytes.now) design_told (IsCompared c.args.limits) c.in-Err.fault c.refused.result refl c.in-Err.ensures.nets c.refused.ensures

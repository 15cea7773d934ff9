use Rattle.std.proofs.Common.{refl, alloc_error}
use Rattle.bt_designs.specs.declared.fault.DesignFault.TheVariants.{Memory}
use Rattle.bt_top.specs.LayingOut.{IsLaidOut}
use Rattle.bt_print.specs.Replies.{design_told}
use Rattle.bt_designs.specs.Requested.{IsLoneRequest}
use Rattle.bt_designs.proofs.InTurns.{stops, went}
use Rattle.bt_top.proofs.layout.layout.Goals as goal

pub returns-in-Ok : goal.returns-in-Ok
returns-in-Ok g c =
    went alloc_error (IsLoneRequest c.args.rect c.args.tier c.args.bytes.now) design_told (IsLaidOut c.args.learnt) c.in-Ok.request c.layout_of.result c.in-Ok.ensures c.layout_of.ensures

pub returns-in-Err : goal.returns-in-Err
returns-in-Err g c =
    stops Memory alloc_error (IsLoneRequest c.args.rect c.args.tier c.args.bytes.now) design_told (IsLaidOut c.args.learnt) c.in-Err.fault c.refused.result refl c.in-Err.ensures c.refused.ensures

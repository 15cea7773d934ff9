use Rattle.std.proofs.Common.{refl, alloc_error}
use Rattle.bt_designs.specs.declared.fault.DesignFault.TheVariants.{Memory}
use Rattle.bt_print.specs.Replies.{design_told}
use Rattle.bt_top.specs.Finding.{IsDesignRequest, IsFound}
use Rattle.bt_top.specs.inner.Asking.{IsFoundBeside}
use Rattle.bt_designs.proofs.InTurns.{stops, went, weaker}
use Rattle.bt_top.proofs.AskedOfAny.{design_request, found_beside}
use Rattle.bt_top.proofs.smallest_found.smallest_found.Goals as goal

pub found_of-requires-clause-request : goal.found_of-requires-clause-request
found_of-requires-clause-request c = (design_request c.args.sides c.args.most c.args.tier c.args.bytes.now c.in-Ok.asked.request c.in-Ok.ensures.request).request

pub found_of-requires-clause-cells : goal.found_of-requires-clause-cells
found_of-requires-clause-cells c = (design_request c.args.sides c.args.most c.args.tier c.args.bytes.now c.in-Ok.asked.request c.in-Ok.ensures.request).cells

pub returns-in-Ok : goal.returns-in-Ok
returns-in-Ok c =
    let r = c.in-Ok.asked.request in
    let own = c.in-Ok.asked.own in
    went alloc_error (IsDesignRequest c.args.sides c.args.most c.args.tier c.args.bytes.now) design_told (IsFound c.args.bytes.now c.args.learnt) r c.found_of.result c.in-Ok.ensures.request
    (weaker alloc_error (IsFoundBeside own c.args.learnt r) (IsFound c.args.bytes.now c.args.learnt r) c.found_of.result (found_beside c.args.bytes.now own c.args.learnt r c.in-Ok.ensures.own) c.found_of.ensures)

pub returns-in-Err : goal.returns-in-Err
returns-in-Err c =
    stops Memory alloc_error (IsDesignRequest c.args.sides c.args.most c.args.tier c.args.bytes.now) design_told (IsFound c.args.bytes.now c.args.learnt) c.in-Err.fault c.refused.result refl c.in-Err.ensures.request c.refused.ensures

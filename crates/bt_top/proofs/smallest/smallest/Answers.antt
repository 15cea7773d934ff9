use Rattle.std.proofs.Common.{◌≤◌, refl, sym, subst, alloc_error}
use Rattle.bt_designs.specs.declared.fault.DesignFault.TheVariants.{Memory}
use Rattle.bt_parts.specs.declared.part.Rect.{Rect}
use Rattle.bt_model.specs.declared.request.TheConstants.{MOST_CELLS}
use Rattle.bt_grids.specs.Grids.{area_of}
use Rattle.bt_print.specs.Replies.{UnlessLarge, design_told}
use Rattle.bt_designs.specs.Requested.{IsSidedRequest}
use Rattle.bt_top.specs.Searching.{IsSearched}
use Rattle.bt_designs.proofs.InTurns.{stops, went}
use Rattle.bt_top.proofs.AskedOfAny.{sided_request}
use Rattle.bt_top.proofs.smallest.smallest.Goals as goal

pub smallest_unless_large-requires-clause-request : goal.smallest_unless_large-requires-clause-request
smallest_unless_large-requires-clause-request c = (sided_request c.args.most c.args.tier c.args.bytes.now c.in-Ok.request c.in-Ok.ensures).request

pub smallest_unless_large-requires-clause-cells : goal.smallest_unless_large-requires-clause-cells
smallest_unless_large-requires-clause-cells c = (sided_request c.args.most c.args.tier c.args.bytes.now c.in-Ok.request c.in-Ok.ensures).cells

pub smallest_unless_large-requires-clause-few : goal.smallest_unless_large-requires-clause-few
smallest_unless_large-requires-clause-few c =
    let is = sided_request c.args.most c.args.tier c.args.bytes.now c.in-Ok.request c.in-Ok.ensures in
    subst (λ (rect : Rect). area_of rect ≤ MOST_CELLS) (sym is.rect) c.requires.few

pub returns-in-Ok : goal.returns-in-Ok
returns-in-Ok c =
    went alloc_error (IsSidedRequest c.args.most c.args.tier c.args.bytes.now) design_told (UnlessLarge (IsSearched c.args.first c.args.learnt)) c.in-Ok.request c.smallest_unless_large.result c.in-Ok.ensures c.smallest_unless_large.ensures

pub returns-in-Err : goal.returns-in-Err
returns-in-Err c =
    stops Memory alloc_error (IsSidedRequest c.args.most c.args.tier c.args.bytes.now) design_told (UnlessLarge (IsSearched c.args.first c.args.learnt)) c.in-Err.fault c.refused.result refl c.in-Err.ensures c.refused.ensures

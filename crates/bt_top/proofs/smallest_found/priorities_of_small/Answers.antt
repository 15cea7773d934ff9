use Rattle.std.proofs.Common.{sym, subst}
use Rattle.std.specs.Prelude.{IfOk}
use Rattle.bt_model.specs.Laying.{LaysPreferring}
use Rattle.bt_entities.specs.ReadBack.{SplittersPrefer}
use Rattle.bt_layout.specs.Small.{IsSmall}
use Rattle.bt_grids.specs.Asked.{request_on}
use Rattle.bt_top.specs.Finding.{IsSmallFoundAgain, IsSmallPreferred}
use Rattle.bt_top.proofs.SmallFound.{found_told}
use Rattle.bt_top.proofs.smallest_found.priorities_of_small.Goals as goal

pub returns-in-Found : goal.returns-in-Found
returns-in-Found c =
    let r = c.args.request.now in
    let h = c.requires.small in
    let told = c.priorities_on.result in
    let lays = subst (λ parts. IfOk told (λ priorities. LaysPreferring parts priorities.items (request_on r c.in-Found.grid))) c.deref.ensures.value c.priorities_on.ensures.lays in
    let may = subst (λ parts. IfOk told (λ priorities. SplittersPrefer parts priorities.items)) c.deref.ensures.value c.priorities_on.ensures.splitters in
    subst (λ small. IfOk told (λ priorities. IsSmallPreferred r small priorities.items × IsSmallFoundAgain small priorities.items)) (sym c.in-Found.is)
    (found_told h.0 h.1 r c.in-Found.grid c.in-Found.parts c.requires.request c.requires.cells (subst (IsSmall r h.0 h.1) c.in-Found.is h.2) told lays may)

use Rattle.std.proofs.Common.{sym, subst}
use Rattle.std.specs.Prelude.{IfOk}
use Rattle.bt_model.specs.Laying.{LaysPreferring}
use Rattle.bt_entities.specs.ReadBack.{SplittersPrefer}
use Rattle.bt_grids.specs.Asked.{request_on}
use Rattle.bt_layout.specs.Smallest.{IsSmallest}
use Rattle.bt_top.specs.Searching.{IsLeastFoundAgain, IsLeastPreferred}
use Rattle.bt_top.proofs.LeastFound.{found_asked, found_told}
use Rattle.bt_top.proofs.smallest.priorities_of_least.Goals as goal

pub priorities_on-requires-clause-request : goal.priorities_on-requires-clause-request
priorities_on-requires-clause-request c =
    let r = c.args.request.now in
    let h = c.requires.found in
    found_asked h.0 r h.1 c.in-Found.earlier c.in-Found.grid c.in-Found.parts c.requires.request c.requires.cells (subst (IsSmallest h.0 r h.1) c.in-Found.is h.2)

pub returns-in-Found : goal.returns-in-Found
returns-in-Found c =
    let r = c.args.request.now in
    let h = c.requires.found in
    let told = c.priorities_on.result in
    let lays = subst (λ parts. IfOk told (λ priorities. LaysPreferring parts priorities.items (request_on r c.in-Found.grid))) c.deref.ensures.value c.priorities_on.ensures.lays in
    let may = subst (λ parts. IfOk told (λ priorities. SplittersPrefer parts priorities.items)) c.deref.ensures.value c.priorities_on.ensures.splitters in
    subst (λ found. IfOk told (λ priorities. IsLeastPreferred r found priorities.items × IsLeastFoundAgain found priorities.items)) (sym c.in-Found.is)
    (found_told h.0 r h.1 c.in-Found.earlier c.in-Found.grid c.in-Found.parts c.requires.request c.requires.cells (subst (IsSmallest h.0 r h.1) c.in-Found.is h.2) told lays may)

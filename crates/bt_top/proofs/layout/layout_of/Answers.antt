use Rattle.std.proofs.Common.{refl, inl, inr, subst, alloc_error}
use Rattle.std.specs.Prelude.{MatchOption}
use Rattle.bt_place.specs.PlaceFormula.{HasFormula}
use Rattle.bt_grids.specs.declared.outcome.Layout.{Layout}
use Rattle.bt_layout.specs.Layouts.{IsLayout}
use Rattle.bt_top.specs.LayingOut.{IsLaidOut, IsLayoutTold}
use Rattle.bt_designs.proofs.InTurns.{weaker}
use Rattle.bt_top.proofs.layout.layout_of.Goals as goal

pub layout_told-requires-clause-found : goal.layout_told-requires-clause-found
layout_told-requires-clause-found g c =
    let r = c.args.request.now in
    (c.args.learnt, subst (λ o. MatchOption o (HasFormula r → ⊥) (IsLayout r c.args.learnt)) c.in-Ok-Some.field-0-is c.in-Ok-Some.ensures)

pub returns-in-Ok-Some : goal.returns-in-Ok-Some
returns-in-Ok-Some g c =
    let r = c.args.request.now in
    let found = c.in-Ok-Some.found in
    let is : IsLayout r c.args.learnt found = subst (λ o. MatchOption o (HasFormula r → ⊥) (IsLayout r c.args.learnt)) c.in-Ok-Some.field-0-is c.in-Ok-Some.ensures in
    weaker alloc_error (IsLayoutTold r found) (IsLaidOut c.args.learnt r) _ (λ reply told. inl (found, is, told)) c.layout_told.ensures

pub returns-in-Ok-None : goal.returns-in-Ok-None
returns-in-Ok-None g c =
    let r = c.args.request.now in
    inr (subst (λ o. MatchOption o (HasFormula r → ⊥) (IsLayout r c.args.learnt)) c.in-Ok-None.field-0-is c.in-Ok-None.ensures, refl)

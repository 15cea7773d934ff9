use Rattle.std.proofs.Common.{refl, inl, inr, subst, alloc_error}
use Rattle.std.specs.Prelude.{MatchOption}
use Rattle.bt_layout.specs.Small.{IsBeyond, IsSmall}
use Rattle.bt_top.specs.Finding.{IsSmallFound, IsSmallTold}
use Rattle.bt_designs.proofs.InTurns.{weaker}
use Rattle.bt_top.proofs.smallest_found.small_of.Goals as goal

pub small_told-requires-clause-small : goal.small_told-requires-clause-small
small_told-requires-clause-small c =
    let r = c.args.request.now in
    (c.args.cells, c.args.learnt, subst (λ o. MatchOption o (IsBeyond r c.args.cells) (IsSmall r c.args.cells c.args.learnt)) c.in-Ok-Some.field-0-is c.in-Ok-Some.ensures)

pub returns-in-Ok-Some : goal.returns-in-Ok-Some
returns-in-Ok-Some c =
    let r = c.args.request.now in
    let small = c.in-Ok-Some.small in
    let is : IsSmall r c.args.cells c.args.learnt small = subst (λ o. MatchOption o (IsBeyond r c.args.cells) (IsSmall r c.args.cells c.args.learnt)) c.in-Ok-Some.field-0-is c.in-Ok-Some.ensures in
    weaker alloc_error (IsSmallTold r small) (IsSmallFound c.args.cells c.args.learnt r) _ (λ reply told. inl (small, is, told)) c.small_told.ensures

pub returns-in-Ok-None : goal.returns-in-Ok-None
returns-in-Ok-None c =
    let r = c.args.request.now in
    inr (subst (λ o. MatchOption o (IsBeyond r c.args.cells) (IsSmall r c.args.cells c.args.learnt)) c.in-Ok-None.field-0-is c.in-Ok-None.ensures, refl)

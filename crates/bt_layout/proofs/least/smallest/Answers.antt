use Rattle.std.proofs.Common.{◌+◌, ◌<◌, length, sym, subst, arith}
use Rattle.std.proofs.lemmas.List.Elements.{All-get_or}
use Rattle.bt_layout.specs.inner.Ends.{IsSought}
use Rattle.bt_grids.specs.Grids.{AreGridsFrom, IsWithin}
use Rattle.bt_grids.specs.Asked.{request_on}
use Rattle.bt_layout.specs.inner.Passing.{ArePassed}
use Rattle.bt_layout.proofs.Passing.{first_left, one_passed}
use Rattle.bt_layout.proofs.Written.{found_few}
use Rattle.bt_layout.proofs.least.smallest.Goals as goal

pub returns-in-Found : goal.returns-in-Found
returns-in-Found c =
    let r = c.args.request.now in let grids = c.in_ok-grids.grids.items in let grid = c.index-grid.result.now in
    let right : IsSought (request_on r grid) c.args.learnt c.in_ok-log.field-0 = c.in_ok-log.ensures in
    let inside : c.loop-place.place < length grids = omega (arith, c.loop-place-test.true, c.len-place-end.ensures, c.in_ok-grids.grids.ok.0) in
    let are = subst (λ m. AreGridsFrom c.args.first m grids) c.rect.ensures.rect c.in_ok-grids.ensures in
    let within = subst (IsWithin r.rect) (sym c.index-grid.ensures) (All-get_or (IsWithin r.rect) grids c.loop-place.place grid inside are.within) in
    let found = subst (IsSought (request_on r grid) c.args.learnt) c.in-Found.is right in (
      first_left r c.args.learnt grids c.loop-place.place c.loop-place.earlier.items c.loop-place.invariant grid (omega (arith, c.loop-place-test.true, c.len-place-end.ensures, c.in_ok-grids.grids.ok.0)) c.index-grid.ensures c.args.first
          (subst (λ m. AreGridsFrom c.args.first m grids) c.rect.ensures.rect c.in_ok-grids.ensures),
      found.0,
      found.1,
      found_few r grid c.in-Found.parts.items c.requires.few within found.0,
    )

pub returns-in-Spent : goal.returns-in-Spent
returns-in-Spent c =
    let r = c.args.request.now in let grids = c.in_ok-grids.grids.items in let grid = c.index-grid.result.now in
    let right : IsSought (request_on r grid) c.args.learnt c.in_ok-log.field-0 = c.in_ok-log.ensures in (
      first_left r c.args.learnt grids c.loop-place.place c.loop-place.earlier.items c.loop-place.invariant grid (omega (arith, c.loop-place-test.true, c.len-place-end.ensures, c.in_ok-grids.grids.ok.0)) c.index-grid.ensures c.args.first
          (subst (λ m. AreGridsFrom c.args.first m grids) c.rect.ensures.rect c.in_ok-grids.ensures),
      subst (IsSought (request_on r grid) c.args.learnt) c.in-Spent.is right,
    )

pub loop-place-preserved : goal.loop-place-preserved
loop-place-preserved c =
    let r = c.args.request.now in let grids = c.in_ok-grids.grids.items in let grid = c.index-grid.result.now in
    let right : IsSought (request_on r grid) c.args.learnt c.in_ok-log.field-0 = c.in_ok-log.ensures in
    subst (ArePassed r c.args.learnt grids (c.loop-place.place + 1)) (sym c.in_ok-push-in-Nowhere.ensures.items)
    (one_passed r c.args.learnt grids c.loop-place.place c.loop-place.earlier.items c.loop-place.invariant grid (omega (arith, c.loop-place-test.true, c.len-place-end.ensures, c.in_ok-grids.grids.ok.0)) c.index-grid.ensures
    c.in-Nowhere.log (subst (IsSought (request_on r grid) c.args.learnt) c.in-Nowhere.is right))

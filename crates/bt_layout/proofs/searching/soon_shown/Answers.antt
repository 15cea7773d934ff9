use Rattle.std.proofs.Common.{arith, subst}
use Rattle.bt_layout.specs.inner.Ends.{IsSought}
use Rattle.bt_grids.specs.declared.outcome.Layout.TheVariants.{Nowhere}
use Rattle.bt_layout.proofs.searching.soon_shown.Goals as goal

pub returns-in-Found : goal.returns-in-Found
returns-in-Found c = subst (IsSought c.args.request.now c.min.result) c.in-Found.is c.in_ok-layout.ensures.layout

pub returns-in-Nowhere : goal.returns-in-Nowhere
returns-in-Nowhere c =
    let shown : IsSought c.args.request.now c.min.result (Nowhere c.in-Nowhere.log) = subst (IsSought c.args.request.now c.min.result) c.in-Nowhere.is c.in_ok-layout.ensures.layout in
    let few = shown.2 in
    (shown.0, shown.1, omega (arith, few, c.min.ensures), shown.3)

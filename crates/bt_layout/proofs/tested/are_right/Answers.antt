use Rattle.std.proofs.Common.{◌↔◌, ◌≤◌, IsTrue, length}
use Rattle.std.proofs.lemmas.Result.{IfOk-weaker}
use Rattle.bt_entities.specs.declared.blueprint.TheConstants.{MOST_ENTITIES}
use Rattle.bt_layout_check.specs.Laid.{LaysBy, naming_of}
use Rattle.bt_layout.specs.inner.Likely.{IsLaidOut}
use Rattle.bt_layout.proofs.Laid.{laid_by}
use Rattle.bt_layout.proofs.tested.are_right.Goals as goal

pub returns : goal.returns
returns c =
    let request = c.args.request.now in
    let parts = c.args.parts.now in
    let naming = naming_of c.args.names.now in
    IfOk-weaker c.lays.result (λ holds. IsTrue holds ↔ LaysBy parts naming request) (λ right. IsTrue right → IsLaidOut request parts × (length parts ≤ MOST_ENTITIES))
    (λ holds tells t. (
      (laid_by parts naming request (tells.0 t), c.are_few_in_order.ensures.in_order c.if-not-are_few_in_order.false),
      c.are_few_in_order.ensures.few c.if-not-are_few_in_order.false,
    )) c.lays.ensures

use Rattle.std.proofs.Common.{refl, ap, List, Err}
use Rattle.bt_text.specs.Answers.{seen}
use Rattle.bt_net.specs.declared.network.Demand.{Demand}
use Rattle.bt_recover.specs.declared.fault.RecoverFault.TheVariants as layout
use Rattle.bt_recover.specs.Sides.{AreEndSides}
use Rattle.bt_designs.specs.declared.fault.DesignFault.TheVariants.{Memory}
use Rattle.bt_designs.specs.Found.{blueprint_request_of}
use Rattle.bt_designs.specs.Refusals.{layout_told}
use Rattle.bt_designs.specs.Requested.{IsRequestFor, pinned_laid}
use Rattle.bt_designs.proofs.InTurns.{stops, went}
use Rattle.bt_designs.proofs.kept.kept_request.Goals as goal

pub returns-in-Ok-clause-request : goal.returns-in-Ok-clause-request
returns-in-Ok-clause-request c =
    went Memory (AreEndSides c.args.drawing.grid) (λ fault. Err (layout_told fault))
    (λ (stays : List Demand). IsRequestFor c.args.rect c.args.tier (record (pinned_laid c.args.drawing.laid) { demands = stays })) c.in-Ok.stays.items
    (seen blueprint_request_of c.blueprint_request.result) c.in-Ok.ensures.right c.blueprint_request.ensures.request

pub returns-in-Err-clause-request : goal.returns-in-Err-clause-request
returns-in-Err-clause-request c =
    stops layout.Memory Memory (AreEndSides c.args.drawing.grid) (λ fault. Err (layout_told fault))
    (λ (stays : List Demand). IsRequestFor c.args.rect c.args.tier (record (pinned_laid c.args.drawing.laid) { demands = stays })) c.in-Err.fault (Err c.into.result) refl
    c.in-Err.ensures.right (ap Err c.into.ensures)

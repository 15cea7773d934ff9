use Rattle.std.proofs.Common.{◌≡◌, refl, List, sym, subst, Err}
use Rattle.std.proofs.lemmas.Result.{IfOk-weaker}
use Rattle.bt_text.specs.Answers.{UnlessMemory, seen}
use Rattle.bt_net.specs.declared.network.Demand.{Demand}
use Rattle.bt_designs.specs.declared.fault.DesignFault.TheVariants.{Memory}
use Rattle.bt_designs.specs.Alone.{IsAlone}
use Rattle.bt_designs.specs.Designs.{IsJsonPreferring}
use Rattle.bt_designs.specs.Found.{blueprint_request_of}
use Rattle.bt_designs.specs.Kept.{AreDrawn}
use Rattle.bt_designs.specs.Requested.{IsRequestFor, pinned_laid}
use Rattle.bt_designs.proofs.InTurns.{stops, went}
use Rattle.bt_designs.proofs.kept.read_blueprint_request.Goals as goal

pub returns-in-Ok-clause-request : goal.returns-in-Ok-clause-request
returns-in-Ok-clause-request c =
    let laid = c.in-Ok.drawing.laid in
    let told = seen blueprint_request_of c.blueprint_request.result in
    went Memory (IsAlone IsJsonPreferring c.args.bytes.now) Err (λ laid. IsRequestFor c.args.rect c.args.tier (pinned_laid laid)) laid told c.in-Ok.ensures.layout
    (subst (λ (demands : List Demand). UnlessMemory Memory (IsRequestFor c.args.rect c.args.tier (record (pinned_laid laid) { demands = demands })) told) c.new.ensures.items
    c.blueprint_request.ensures.request)

pub returns-in-Ok-clause-drawn : goal.returns-in-Ok-clause-drawn
returns-in-Ok-clause-drawn c =
    IfOk-weaker c.blueprint_request.result (λ found. found.grid ≡ c.in-Ok.drawing.grid) (λ found. AreDrawn c.args.bytes.now found.grid)
    (λ found e. subst (AreDrawn c.args.bytes.now) (sym e) c.in-Ok.ensures.drawn) c.blueprint_request.ensures.grid

pub returns-in-Err-clause-request : goal.returns-in-Err-clause-request
returns-in-Err-clause-request c =
    stops Memory Memory (IsAlone IsJsonPreferring c.args.bytes.now) Err (λ laid. IsRequestFor c.args.rect c.args.tier (pinned_laid laid)) c.in-Err.fault (Err c.in-Err.fault) refl
    c.in-Err.ensures.layout refl

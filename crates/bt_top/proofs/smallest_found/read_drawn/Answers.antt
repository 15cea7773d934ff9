use Rattle.std.proofs.Common.{sym, subst}
use Rattle.bt_text.specs.Answers.{UnlessMemory, seen}
use Rattle.bt_designs.specs.declared.fault.DesignFault.TheVariants.{Memory}
use Rattle.bt_designs.specs.Found.{blueprint_request_of}
use Rattle.bt_designs.specs.Kept.{IsBlueprintRequest}
use Rattle.bt_designs.specs.Requested.{IsLoneRequest}
use Rattle.bt_designs.proofs.Drawings.{blueprint_is_lone}
use Rattle.bt_designs.proofs.InTurns.{weaker}
use Rattle.bt_top.specs.Finding.{IsDrawnRequest}
use Rattle.bt_top.proofs.smallest_found.read_drawn.Goals as goal

pub returns-in-Any-clause-request : goal.returns-in-Any-clause-request
returns-in-Any-clause-request c =
    let told = seen blueprint_request_of c.read_blueprint_request.result in
    subst (λ sides. UnlessMemory Memory (IsDrawnRequest sides c.args.rect c.args.tier c.args.bytes.now) told) (sym c.in-Any.is)
    (weaker Memory (IsBlueprintRequest c.args.rect c.args.tier c.args.bytes.now) (IsLoneRequest c.args.rect c.args.tier c.args.bytes.now) told
    (blueprint_is_lone c.args.bytes.now c.requires.json c.args.rect c.args.tier) c.read_blueprint_request.ensures.request)

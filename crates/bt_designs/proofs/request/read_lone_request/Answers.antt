use Rattle.std.proofs.Common.{refl, Err}
use Rattle.bt_designs.specs.declared.fault.DesignFault.TheVariants.{Memory}
use Rattle.bt_designs.specs.Alone.{IsAlone}
use Rattle.bt_designs.specs.Requested.{IsPinned, IsRequestFor}
use Rattle.bt_designs.proofs.InTurns.{stops, went}
use Rattle.bt_designs.proofs.request.read_lone_request.Goals as goal

pub returns-in-Ok : goal.returns-in-Ok
returns-in-Ok c =
    went Memory (IsAlone IsPinned c.args.bytes.now) Err (IsRequestFor c.args.rect c.args.tier) _ _ c.in-Ok.ensures c.request_for.ensures

pub returns-in-Err : goal.returns-in-Err
returns-in-Err c =
    stops Memory Memory (IsAlone IsPinned c.args.bytes.now) Err (IsRequestFor c.args.rect c.args.tier) c.in-Err.fault (Err c.in-Err.fault) refl c.in-Err.ensures refl

use Rattle.std.proofs.Common.{refl, alloc_error}
use Rattle.bt_designs.specs.declared.fault.DesignFault.TheVariants.{Memory}
use Rattle.bt_designs.specs.Alone.{IsLoneNet}
use Rattle.bt_top.specs.Deciding.{IsDecided}
use Rattle.bt_print.specs.Replies.{design_told}
use Rattle.bt_designs.proofs.InTurns.{stops, went}
use Rattle.bt_top.proofs.decide.decide.Goals as goal

pub returns-in-Ok : goal.returns-in-Ok
returns-in-Ok g c =
    went alloc_error (IsLoneNet c.args.bytes.now) design_told (λ n. IsDecided n c.args.property c.args.limits) c.in-Ok.net c.decide_of.result c.in-Ok.ensures c.decide_of.ensures

pub returns-in-Err : goal.returns-in-Err
returns-in-Err g c =
    stops Memory alloc_error (IsLoneNet c.args.bytes.now) design_told (λ n. IsDecided n c.args.property c.args.limits) c.in-Err.fault c.refused.result refl c.in-Err.ensures c.refused.ensures

use Rattle.std.proofs.Common.{◌≡◌, refl, alloc_error, Ok}
use Rattle.bt_print.specs.declared.answer.Answer.TheVariants.{Recovered}
use Rattle.bt_designs.specs.declared.fault.DesignFault.TheVariants.{Memory}
use Rattle.bt_designs.specs.Alone.{IsLoneNet}
use Rattle.bt_print.specs.Replies.{design_told}
use Rattle.bt_designs.specs.Steps.{went_on}
use Rattle.bt_designs.proofs.InTurns.{stops}
use Rattle.bt_top.proofs.recover.recover.Goals as goal

pub returns-in-Ok : goal.returns-in-Ok
returns-in-Ok c = went_on _ c.in-Ok.ensures refl

pub returns-in-Err : goal.returns-in-Err
returns-in-Err c =
    stops Memory alloc_error (IsLoneNet c.args.bytes.now) design_told (λ n reply. reply ≡ Ok (Recovered n)) c.in-Err.fault c.refused.result refl c.in-Err.ensures c.refused.ensures

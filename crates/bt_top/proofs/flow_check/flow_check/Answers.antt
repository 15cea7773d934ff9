use Rattle.std.proofs.Common.{refl, drop, subst, alloc_error}
use Rattle.bt_text.specs.Answers.{UnlessMemory}
use Rattle.bt_designs.specs.declared.fault.DesignFault.TheVariants.{Memory}
use Rattle.bt_designs.specs.Designs.{IsDesign}
use Rattle.bt_print.specs.Replies.{design_told}
use Rattle.bt_top.specs.States.{IsStateChecked}
use Rattle.bt_designs.proofs.InTurns.{stops, went}
use Rattle.bt_top.proofs.flow_check.flow_check.Goals as goal

pub returns-in-Ok : goal.returns-in-Ok
returns-in-Ok c =
    went alloc_error (IsDesign c.args.bytes.now) design_told (λ found. IsStateChecked found.0 c.args.property (drop found.1 c.args.bytes.now)) _ _
    c.in-Ok.ensures.design
    (subst (λ rest. UnlessMemory alloc_error (IsStateChecked c.in-Ok.design.net c.args.property rest) c.check_state.result) c.split_at.ensures.back c.check_state.ensures)

pub returns-in-Err : goal.returns-in-Err
returns-in-Err c =
    stops Memory alloc_error (IsDesign c.args.bytes.now) design_told (λ found. IsStateChecked found.0 c.args.property (drop found.1 c.args.bytes.now))
    c.in-Err.fault c.refused.result refl c.in-Err.ensures.design c.refused.ensures

use Rattle.std.proofs.Common.{refl, alloc_error}
use Rattle.bt_flow.specs.StateReading.{IsStateRead}
use Rattle.bt_flow.specs.declared.fault.StateFault.TheVariants as state
use Rattle.bt_top.specs.States.{IsJudged}
use Rattle.bt_designs.specs.Steps.{went_on}
use Rattle.bt_designs.proofs.InTurns.{stops}
use Rattle.bt_print.specs.Replies.{state_told}
use Rattle.bt_top.proofs.flow_check.judge_text.Goals as goal

pub returns-in-Ok : goal.returns-in-Ok
returns-in-Ok c = went_on _ c.in-Ok.ensures.right c.judge.ensures

pub returns-in-Err : goal.returns-in-Err
returns-in-Err c =
    stops state.Memory alloc_error (IsStateRead c.args.net.now c.args.property c.args.text.now) state_told
    (IsJudged c.args.net.now c.args.property c.args.broken) c.in-Err.fault c.no_state.result refl c.in-Err.ensures.right c.no_state.ensures

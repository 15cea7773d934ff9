use Rattle.std.proofs.Common.{refl, alloc_error}
use Rattle.bt_flow.specs.declared.fault.StateFault.TheVariants as state
use Rattle.bt_same.specs.PairReading.{IsPairRead}
use Rattle.bt_top.specs.SameCertificates.{IsPairJudged}
use Rattle.bt_designs.specs.Steps.{went_on}
use Rattle.bt_designs.proofs.InTurns.{stops}
use Rattle.bt_print.specs.Replies.{state_told}
use Rattle.bt_top.proofs.pair_check.judge_pair_text.Goals as goal

pub returns-in-Ok : goal.returns-in-Ok
returns-in-Ok c = went_on _ c.in-Ok.ensures.right c.judge_pair.ensures

pub returns-in-Err : goal.returns-in-Err
returns-in-Err c =
    stops state.Memory alloc_error (IsPairRead c.args.first.now c.args.second.now c.args.text.now) state_told
    (IsPairJudged (c.args.first.now, c.args.second.now)) c.in-Err.fault c.no_state.result refl c.in-Err.ensures.right c.no_state.ensures

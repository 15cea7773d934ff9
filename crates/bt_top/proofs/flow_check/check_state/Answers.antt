use Rattle.bt_print.specs.declared.answer.Brief.TheVariants.{Breaks}
use Rattle.bt_top.specs.States.{IsStateJudged, IsStateChecked}
use Rattle.std.proofs.Common.{alloc_error}
use Rattle.bt_designs.proofs.InTurns.{weaker}
use Rattle.bt_top.proofs.flow_check.check_state.Goals as goal

pub returns : goal.returns
returns c =
    let text = c.skip_blanks-text.result.now in
    weaker alloc_error (IsStateJudged c.args.net.now c.args.property (Breaks c.args.property) text)
    (IsStateChecked c.args.net.now c.args.property c.args.rest.now) c.judge_text.result (λ r h. (text, c.skip_blanks-text.ensures, h)) c.judge_text.ensures

use Rattle.std.proofs.Common.{◌∙◌}
use Rattle.bt_print.specs.declared.answer.Brief.TheVariants.{No}
use Rattle.bt_top.specs.States.{IsStateJudged}
use Rattle.bt_top.proofs.Fronts.{text_answered}
use Rattle.bt_top.proofs.front_answer.state_answer.Goals as goal

pub returns : goal.returns
returns c =
    let written = c.args.written in
    text_answered (IsStateJudged written.net written.property (No written.property)) c.deref.result.now written.text.now c.args.rest.now (c.deref.ensures.value ∙ c.in_ok-text.ensures) c.judge_text.result c.judge_text.ensures

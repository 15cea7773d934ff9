use Rattle.std.proofs.Common.{◌∙◌}
use Rattle.bt_top.specs.SameCertificates.{IsPairTextJudged}
use Rattle.bt_top.proofs.Fronts.{text_answered}
use Rattle.bt_top.proofs.front_answer.pair_answer.Goals as goal

pub returns : goal.returns
returns c =
    let written = c.args.written in
    text_answered (IsPairTextJudged (written.first, written.second)) c.deref.result.now written.text.now c.args.rest.now (c.deref.ensures.value ∙ c.in_ok-text.ensures) c.judge_pair_text.result c.judge_pair_text.ensures

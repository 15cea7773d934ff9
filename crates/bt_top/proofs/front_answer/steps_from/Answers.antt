use Rattle.std.proofs.Common.{subst, sym}
use Rattle.bt_io.specs.Passages.{passage}
use Rattle.bt_top.specs.inner.Fronts.{AnswersRest, IsStepsReply}
use Rattle.bt_top.proofs.Fronts.{rest_of, steps_left}
use Rattle.bt_top.proofs.front_answer.steps_from.Goals as goal

pub returns : goal.returns
returns g c =
    let source = passage g.S.Source.left g.S.Source.faults c.args.source.now c.check_log-judged.new.source in
    subst (λ told. AnswersRest c.args.ended (IsStepsReply c.args.steps) c.args.limit source told) (sym c.steps_answer.ensures)
    (rest_of c.args.ended (IsStepsReply c.args.steps) c.args.limit source _ c.if-ended.false (steps_left c.args.steps c.args.limit source c.check_log-judged.result c.check_log-judged.ensures.checked))

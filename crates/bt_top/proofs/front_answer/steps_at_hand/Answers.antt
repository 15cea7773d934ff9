use Rattle.std.proofs.Common.{Ok, Some, [], IfOk, ap, refl, subst, sym}
use Rattle.bt_io.specs.Passages.{Passage}
use Rattle.bt_top.specs.inner.Fronts.{IsStepsReply}
use Rattle.bt_top.proofs.Fronts.{none_right, steps_left}
use Rattle.bt_top.proofs.front_answer.steps_at_hand.Goals as goal

pub returns-clause-answer : goal.returns-clause-answer
returns-clause-answer c =
    let source : Passage = record { before = Some c.new-source.result; after = Some c.check_log-judged.new.source; faults = 0; faults_after = 0 } in
    subst (λ told. IfOk told (λ answer. IsStepsReply c.args.steps [] (Ok answer))) (sym c.steps_answer.ensures)
    (none_right (IsStepsReply c.args.steps) source (ap Some c.new-source.ensures) refl refl _ (steps_left c.args.steps 0 source c.check_log-judged.result c.check_log-judged.ensures.checked))

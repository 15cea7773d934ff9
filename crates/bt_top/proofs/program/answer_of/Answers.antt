use Rattle.std.proofs.Common.{subst, sym}
use Rattle.bt_io.specs.Passages.{passage}
use Rattle.bt_top.specs.inner.Telling.{IsAnswered}
use Rattle.bt_top.proofs.Fronts.{check_answered, layout_answered, same_answered}
use Rattle.bt_top.proofs.program.answer_of.Goals as goal

pub returns-in-Check-clause-answer : goal.returns-in-Check-clause-answer
returns-in-Check-clause-answer g c =
    let source = passage g.S.Source.left g.S.Source.faults c.args.source.now c.claim_answer.new.source in
    subst (λ command. IsAnswered command source c.claim_answer.result) (sym c.in-Check.is)
    (check_answered c.in-Check.property source c.claim_answer.result c.claim_answer.ensures)

pub returns-in-CheckLayout-clause-answer : goal.returns-in-CheckLayout-clause-answer
returns-in-CheckLayout-clause-answer g c =
    let source = passage g.S.Source.left g.S.Source.faults c.args.source.now c.claim_answer-in-CheckLayout.new.source in
    subst (λ command. IsAnswered command source c.claim_answer-in-CheckLayout.result) (sym c.in-CheckLayout.is)
    (layout_answered c.in-CheckLayout.rect c.in-CheckLayout.tier source c.claim_answer-in-CheckLayout.result c.claim_answer-in-CheckLayout.ensures)

pub returns-in-CheckSame-clause-answer : goal.returns-in-CheckSame-clause-answer
returns-in-CheckSame-clause-answer g c =
    let source = passage g.S.Source.left g.S.Source.faults c.args.source.now c.claim_answer-in-CheckSame.new.source in
    subst (λ command. IsAnswered command source c.claim_answer-in-CheckSame.result) (sym c.in-CheckSame.is)
    (same_answered source c.claim_answer-in-CheckSame.result c.claim_answer-in-CheckSame.ensures)

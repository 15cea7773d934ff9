use Rattle.std.proofs.Common.{Ok, subst}
use Rattle.bt_io.specs.Passages.{passage}
use Rattle.bt_top.specs.inner.Fronts.{IsPairReply}
use Rattle.bt_top.proofs.Fronts.{rest_left}
use Rattle.bt_top.proofs.front_answer.pair_from.Goals as goal

pub returns-in_ok-pair_answer-in-Ok : goal.returns-in_ok-pair_answer-in-Ok
returns-in_ok-pair_answer-in-Ok g c =
    let source = passage g.S.Source.left g.S.Source.faults c.args.source.now c.read_rest.new.source in
    rest_left c.args.ended (IsPairReply c.args.written) c.args.limit source c.in-Ok.rest.items c.in_ok-pair_answer-in-Ok.field-0 c.in-Ok.ensures
    (subst (λ rest. IsPairReply c.args.written rest (Ok c.in_ok-pair_answer-in-Ok.field-0)) c.deref.ensures.value c.in_ok-pair_answer-in-Ok.ensures)

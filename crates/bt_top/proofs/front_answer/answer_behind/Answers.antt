use Rattle.std.proofs.Common.{subst, sym}
use Rattle.bt_io.specs.Passages.{passage}
use Rattle.bt_top.specs.inner.Fronts.{AnswersRest, IsReply}
use Rattle.bt_top.proofs.front_answer.answer_behind.Goals as goal

pub returns-in-State : goal.returns-in-State
returns-in-State g c =
    subst (λ f. AnswersRest c.args.ended (IsReply f) c.args.limit (passage g.S.Source.left g.S.Source.faults c.args.source.now c.state_from.new.source) c.state_from.result) (sym c.in-State.is) c.state_from.ensures

pub returns-in-Pair : goal.returns-in-Pair
returns-in-Pair g c =
    subst (λ f. AnswersRest c.args.ended (IsReply f) c.args.limit (passage g.S.Source.left g.S.Source.faults c.args.source.now c.pair_from.new.source) c.pair_from.result) (sym c.in-Pair.is) c.pair_from.ensures

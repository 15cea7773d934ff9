use Rattle.std.proofs.Common.{sym, subst}
use Rattle.bt_text.proofs.OneAnswer.{answers_always_of}
use Rattle.bt_flow.specs.declared.property.Property.TheVariants.{Unlimited}
use Rattle.bt_flow.specs.States.{Flows, StandsFor}
use Rattle.bt_flow.specs.Judging.{IsSteadyAnswer}
use Rattle.bt_flow.specs.inner.Trials.{IsJudged}
use Rattle.bt_flow.proofs.Denominators.{some_flows}
use Rattle.bt_flow.proofs.Judged.{steady_answer}
use Rattle.bt_flow.proofs.OneAnswer.{one_steady_answer}
use Rattle.bt_flow.proofs.judge.steady.Goals as goal

pub judge-requires-clause-some : goal.judge-requires-clause-some
judge-requires-clause-some c =
    subst (λ x. (s : Flows) × StandsFor x.network x.state s) (sym c.new.ensures.subject) (some_flows c.args.net.now c.args.state.now c.new.ensures.lowest c.requires)

pub returns : goal.returns
returns c =
    let n = c.args.net.now in
    let p = Unlimited in
    let t = c.args.state.now in
    answers_always_of (IsSteadyAnswer n t) (one_steady_answer n t) c.judge.result
    (steady_answer n p t c.judge.result (some_flows n t c.new.ensures.lowest c.requires) (subst (λ x. IsJudged x 2 10 c.judge.result) c.new.ensures.subject c.judge.ensures))

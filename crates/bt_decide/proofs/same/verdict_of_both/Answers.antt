use Rattle.std.proofs.Common.{subst}
use Rattle.bt_same.specs.SameFormula.{same_formula}
use Rattle.bt_extend.proofs.Conservative.{refuted_extension_is_unmet}
use Rattle.bt_same.proofs.Refuted.{unmet_are_same}
use Rattle.bt_theory.specs.Outcomes.{IsOutcome}
use Rattle.bt_decide.proofs.Shown.{shows_met}
use Rattle.bt_decide.proofs.same.verdict_of_both.Goals as goal

pub returns-in_ok-pair-in-Sat : goal.returns-in_ok-pair-in-Sat
returns-in_ok-pair-in-Sat c = λ limits first second formula are is.
    let pair = c.in_ok-pair-in-Sat.pair in (
      shows_met c.args.first.now c.args.second.now pair.first pair.second c.in-Sat.values.items c.deref.result.now c.in-Sat.assignment.items c.deref-in-Sat.result.now c.deref.ensures.value c.deref-in-Sat.ensures.value
          (subst (IsOutcome (same_formula c.args.first.now c.args.second.now) c.args.definitions.items limits) c.in-Sat.is is).meets c.in_ok-pair-in-Sat.ensures.shows,
      c.in_ok-pair-in-Sat.ensures.lowest.0,
      c.in_ok-pair-in-Sat.ensures.lowest.1,
    )

pub returns-in-Refuted : goal.returns-in-Refuted
returns-in-Refuted c = λ limits first second formula are is.
    let f = same_formula c.args.first.now c.args.second.now in
    let refutes = subst (IsOutcome f c.args.definitions.items limits) c.in-Refuted.is is in
    let unmet = refuted_extension_is_unmet f c.args.definitions.items c.in-Refuted.log.steps formula are.are refutes.0.refutes in
    (unmet_are_same c.args.first.now c.args.second.now first second c.requires unmet, (are, refutes.0, refutes.1, refutes.2))

pub returns-in-GaveUp : goal.returns-in-GaveUp
returns-in-GaveUp c = λ limits first second formula are is.
    (are, subst (IsOutcome (same_formula c.args.first.now c.args.second.now) c.args.definitions.items limits) c.in-GaveUp.is is)

use Rattle.std.proofs.Common.{subst}
use Rattle.std.specs.Prelude.{IfSome}
use Rattle.bt_cnf.specs.Assignments.{truth_in}
use Rattle.bt_cnf.specs.Formulas.{FormulaParts}
use Rattle.bt_cnf.specs.Meeting.{Meets}
use Rattle.bt_frac.specs.Values.{value_in}
use Rattle.bt_theory.specs.Outcomes.{Solves}
use Rattle.bt_decide.proofs.Shown.{shows_met}
use Rattle.bt_decide.proofs.same.shown.Goals as goal

pub returns-in-Some : goal.returns-in-Some
returns-in-Some c =
    let pair = c.in_ok-pair-in-Some.pair in
    let s = c.in-Some.solution in
    let solves = subst (λ found. IfSome found (Solves c.args.formula.now)) c.in-Some.is c.in_ok-solution.ensures in
    let met = subst (λ (f : FormulaParts). Meets f (truth_in s.assignment.items) (value_in s.values.items)) c.requires.formula.formula solves.meets in (
      shows_met c.args.first.now c.args.second.now pair.first pair.second s.values.items c.deref-in-Some.result.now s.assignment.items c.deref-in-Some-2.result.now c.deref-in-Some.ensures.value c.deref-in-Some-2.ensures.value met c.in_ok-pair-in-Some.ensures.shows,
      c.in_ok-pair-in-Some.ensures.lowest.0,
      c.in_ok-pair-in-Some.ensures.lowest.1,
    )

use Rattle.std.proofs.Common.{◌≡◌, List, Bool, sym, subst}
use Rattle.bt_frac.specs.Ratio.{Ratio}
use Rattle.bt_frac.specs.Values.{value_in}
use Rattle.bt_net.specs.Network.{Network}
use Rattle.bt_flow.specs.declared.property.Property.{Property}
use Rattle.bt_flow.specs.States.{Fractions, IsTrueOf}
use Rattle.bt_flow.specs.Properties.{Breaks}
use Rattle.bt_cnf.specs.Assignments.{truth_in}
use Rattle.bt_cnf.specs.Meeting.{Meets}
use Rattle.bt_flow_formula.specs.FlowFormula.{flow_formula}
use Rattle.bt_flow_formula.specs.Solutions.{BreaksWhatIsMet}
use Rattle.bt_extend.proofs.Conservative.{refuted_extension_is_unmet}
use Rattle.bt_flow_formula.proofs.Formulas.{is_formula}
use Rattle.bt_flow_formula.proofs.Refuted.{unmet_holds}
use Rattle.bt_theory.specs.Outcomes.{IsOutcome}
use Rattle.bt_decide.proofs.deciding.verdict_of.Goals as goal

-- the values that meet the formula are those that were lent to form the state
breaks_met : (n : Network) (p : Property) (state : Fractions) (values lent_values : List Ratio) (truths lent_truths : List Bool) → lent_values ≡ values → lent_truths ≡ truths
    → Meets (flow_formula n p) (truth_in truths) (value_in values) → BreaksWhatIsMet n (truth_in lent_truths) (value_in lent_values) state → IsTrueOf n state (Breaks n p)
breaks_met n p state values lent_values truths lent_truths e f met breaks =
    breaks p (subst (λ vs. Meets (flow_formula n p) (truth_in lent_truths) (value_in vs)) (sym e) (subst (λ ts. Meets (flow_formula n p) (truth_in ts) (value_in values)) (sym f) met))

pub returns-in_ok-state-in-Sat : goal.returns-in_ok-state-in-Sat
returns-in_ok-state-in-Sat c = λ p limits network are is. (
  breaks_met c.args.net.now p c.in_ok-state-in-Sat.state c.in-Sat.values.items c.deref.result.now c.in-Sat.assignment.items c.deref-in-Sat.result.now c.deref.ensures.value c.deref-in-Sat.ensures.value
      (subst (IsOutcome (flow_formula c.args.net.now p) c.args.definitions.items limits) c.in-Sat.is is).meets c.in_ok-state-in-Sat.ensures.breaks,
  c.in_ok-state-in-Sat.ensures.lowest,
)

pub returns-in-Refuted : goal.returns-in-Refuted
returns-in-Refuted c = λ p limits network are is.
    let f = flow_formula c.args.net.now p in
    let refutes = subst (IsOutcome f c.args.definitions.items limits) c.in-Refuted.is is in
    let unmet = refuted_extension_is_unmet f c.args.definitions.items c.in-Refuted.log.steps (is_formula c.args.net.now p network) are.are refutes.0.refutes in
    (unmet_holds c.args.net.now p network unmet, (are, refutes.0, refutes.1, refutes.2))

pub returns-in-GaveUp : goal.returns-in-GaveUp
returns-in-GaveUp c = λ p limits network are is. (are, subst (IsOutcome (flow_formula c.args.net.now p) c.args.definitions.items limits) c.in-GaveUp.is is)

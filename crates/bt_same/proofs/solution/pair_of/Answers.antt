use Rattle.std.proofs.Common.{Bool, ℕ, ap, ◌∙◌}
use Rattle.bt_frac.specs.Ratio.{Ratio}
use Rattle.bt_frac.specs.Values.{value_in}
use Rattle.bt_flow.specs.States.{Fractions}
use Rattle.bt_cnf.specs.Assignments.{truth_in}
use Rattle.bt_flow_formula.specs.Solutions.{state_at}
use Rattle.bt_same.specs.declared.shift.Shift.{Shift}
use Rattle.bt_same.specs.SameFormula.{shifted}
use Rattle.bt_same.proofs.Solved.{pair_shows}
use Rattle.bt_same.proofs.solution.pair_of.Goals as goal

pub returns-clause-shows : goal.returns-clause-shows
returns-clause-shows c =
    let a = c.args.first.now in
    let b = c.args.second.now in
    let f : ℕ → Bool = truth_in c.args.assignment.now in
    let v : ℕ → Ratio = value_in c.args.values.now in
    let known = c.are_known.ensures in
    pair_shows a b known.networks.0 known.networks.1 c.requires c.args.assignment.now c.args.values.now c.all_known.ensures c.in_ok-one.one c.in_ok-other.other
    (c.in_ok-one.ensures.state ∙ ap {A = Shift} {B = Fractions} (λ s. state_at a (λ k. f (shifted s k)) (λ k. v (shifted s k))) c.of_first-of_first.ensures)
    (c.in_ok-other.ensures.state ∙ ap {A = Shift} {B = Fractions} (λ s. state_at b (λ k. f (shifted s k)) (λ k. v (shifted s k))) c.of_second-of_second.ensures)
    c.in_ok-one.ensures.lowest c.in_ok-other.ensures.lowest

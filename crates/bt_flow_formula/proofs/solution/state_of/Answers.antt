use Rattle.std.proofs.Common.{◌≡◌, rules, sym, subst}
use Rattle.bt_frac.specs.Values.{value_in}
use Rattle.bt_cnf.specs.Assignments.{truth_in}
use Rattle.bt_flow_formula.specs.Solutions.{state_at, BreaksWhatIsMet}
use Rattle.bt_flow_formula.proofs.States.{state_of_breaks}
use Rattle.bt_flow_formula.proofs.solution.state_of.Goals as goal

pub returns-clause-breaks : goal.returns-clause-breaks
returns-clause-breaks c =
    let n = c.args.net.now in
    let f = truth_in c.args.assignment.now in
    let v = value_in c.args.values.now in
    let same : c.new.result ≡ state_at n f v = search rules in
    subst (BreaksWhatIsMet n f v) (sym same) (state_of_breaks n c.args.assignment.now c.args.values.now c.edges-edges.ensures.network c.all_known.ensures)

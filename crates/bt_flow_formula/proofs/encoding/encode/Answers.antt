use Rattle.std.proofs.Common.{[], length, refl, ap, ◌∙◌}
use Rattle.bt_flow_formula.specs.Properties.{property_clauses}
use Rattle.bt_flow_formula.specs.FlowFormula.{steady_clauses, flow_clauses, leveled}
use Rattle.bt_flow_formula.specs.inner.Variables.{at_in}
use Rattle.bt_flow_formula.proofs.Numbers.{added_more}
use Rattle.bt_flow_formula.proofs.Kept.{formula_kept}
use Rattle.bt_flow_formula.proofs.encoding.encode.Goals as goal

pub returns-clause-formula : goal.returns-clause-formula
returns-clause-formula c =
    let n = c.args.net.now in
    let p = c.args.property in
    c.in_ok-add_level.ensures
    ∙ ap (leveled n p)
    (added_more (at_in c.in_ok-pairs.pairs) (record { vars = length n.edges; clauses = []; atoms = [] }) c.in_ok-formula.formula c.add_property.new.formula (steady_clauses n) (property_clauses n p) (flow_clauses n p)
    c.in_ok-formula.ensures.formula c.in_ok-add_property.ensures refl
    ∙ formula_kept n c.in_ok-pairs.pairs c.in_ok-pairs.ensures c.in_ok-formula.ensures.network p)

-- How large flow formulas are.
use Rattle.std.specs.Prelude.{◌<◌, ◌^◌, length}
use Rattle.bt_net.specs.Network.{Network, IsNetwork}
use Rattle.bt_flow.specs.declared.property.Property.{Property}
use Rattle.bt_cnf.specs.Formulas.{FormulaParts}
use Rattle.bt_flow_formula.specs.FlowFormula.{flow_formula, steady_formula}

-- the formula has fewer than 2 ^ 20 variables, and fewer clauses than that
pub record IsSmall (f : FormulaParts) : Type 0 where
  pub vars : f.vars < 2 ^ 20
  pub clauses : length f.clauses < 2 ^ 20

-- each network's flow formulas are small
abbrev pub FlowFormulasAreSmall : Type 0
FlowFormulasAreSmall = (n : Network) (p : Property) → IsNetwork n → IsSmall (flow_formula n p)

-- each network's formula of its steady states is small
abbrev pub SteadyFormulasAreSmall : Type 0
SteadyFormulasAreSmall = (n : Network) → IsNetwork n → IsSmall (steady_formula n)

use Rattle.bt_flow_formula.proofs.Sizes as proved
use Rattle.bt_flow_formula.proofs.law.steady_formulas_are_small.Goals as goal

pub returns : goal.returns
returns c = proved.steady_formulas_small

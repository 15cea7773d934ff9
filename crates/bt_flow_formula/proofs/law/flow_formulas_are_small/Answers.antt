use Rattle.bt_flow_formula.proofs.Sizes as proved
use Rattle.bt_flow_formula.proofs.law.flow_formulas_are_small.Goals as goal

pub returns : goal.returns
returns c = proved.flow_formulas_small

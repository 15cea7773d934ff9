use Rattle.bt_flow_formula.proofs.EvenFormula as proved
use Rattle.bt_flow_formula.proofs.law.flow_formula_is_even.Goals as goal

pub returns : goal.returns
returns c = proved.flow_formula_is_even

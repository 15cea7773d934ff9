use Rattle.bt_same.proofs.Formed as proved
use Rattle.bt_same.proofs.law.same_formulas_are_formulas.Goals as goal

pub returns : goal.returns
returns c = proved.same_formulas_are_formulas

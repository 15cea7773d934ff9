use Rattle.bt_extend.proofs.Conservative.{definitions_are_conservative}
use Rattle.bt_extend.proofs.law.definitions_are_conservative.Goals as goal

pub returns : goal.returns
returns c = definitions_are_conservative

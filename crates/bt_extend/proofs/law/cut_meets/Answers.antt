use Rattle.bt_extend.proofs.Conservative.{cut_meets}
use Rattle.bt_extend.proofs.law.cut_meets.Goals as goal

pub returns : goal.returns
returns c = cut_meets

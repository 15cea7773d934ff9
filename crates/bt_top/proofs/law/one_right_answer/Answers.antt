use Rattle.bt_top.proofs.OneAnswer.{only_right}
use Rattle.bt_top.proofs.law.one_right_answer.Goals as goal

pub returns : goal.returns
returns c = only_right

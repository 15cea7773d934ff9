use Rattle.bt_farkas.proofs.Sound
use Rattle.bt_farkas.proofs.law.false_sums_fail.Goals as goal

pub returns : goal.returns
returns c = Sound.false_sums_fail

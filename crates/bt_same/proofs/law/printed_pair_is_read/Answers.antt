use Rattle.bt_same.proofs.PairTexts as proved
use Rattle.bt_same.proofs.law.printed_pair_is_read.Goals as goal

pub returns : goal.returns
returns c = proved.printed_is_read

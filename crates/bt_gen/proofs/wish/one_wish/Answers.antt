use Rattle.bt_gen.proofs.OneWish.{same_wish}
use Rattle.bt_gen.proofs.wish.one_wish.Goals as goal

pub returns : goal.returns
returns c = same_wish

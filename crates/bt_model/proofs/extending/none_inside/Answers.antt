use Rattle.bt_model.proofs.Extended.{none_inside}
use Rattle.bt_model.proofs.extending.none_inside.Goals as goal

pub returns : goal.returns
returns c = none_inside

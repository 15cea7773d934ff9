use Rattle.bt_model.proofs.Extended.{has_greater}
use Rattle.bt_model.proofs.extending.extends.Goals as goal

pub returns : goal.returns
returns c = has_greater

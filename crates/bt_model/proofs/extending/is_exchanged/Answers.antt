use Rattle.bt_model.proofs.Exchanged.{has_exchanged}
use Rattle.bt_model.proofs.extending.is_exchanged.Goals as goal

pub returns : goal.returns
returns c = has_exchanged

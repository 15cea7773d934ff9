use Rattle.std.proofs.Common.{refl}
use Rattle.bt_top.proofs.smallest_found.small_told.Goals as goal

pub returns : goal.returns
returns c = (c.in_ok-priorities.priorities, c.in_ok-priorities.ensures.0, c.in_ok-priorities.ensures.1, refl)

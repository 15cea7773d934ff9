use Rattle.bt_net.proofs.Tallying.{admitted}
use Rattle.bt_net.proofs.wiring.Wiring.push.Goals as goal

pub count_start-requires : goal.count_start-requires
count_start-requires c = (admitted _ _ _ _ _ c.self.invariant c.args.edge (rw (← c.self.view_is) at c.requires)).0

pub count_target-requires : goal.count_target-requires
count_target-requires c = (admitted _ _ _ _ _ c.self.invariant c.args.edge (rw (← c.self.view_is) at c.requires)).1

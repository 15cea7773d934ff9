use Rattle.bt_designs.proofs.CappedNets.{speed_is_cap}
use Rattle.std.proofs.Common.{subst, sym}
use Rattle.bt_net.specs.Network.{IsCap}
use Rattle.bt_designs.proofs.design.in_basic_belts.Goals as goal

pub with_caps-requires : goal.with_caps-requires
with_caps-requires c = subst IsCap (sym c.speed.ensures) (speed_is_cap c.in-Some.tier)

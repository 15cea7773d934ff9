-- Part of what a wish asks for.
use Rattle.std.specs.Prelude.{IsTrue}
use Rattle.bt_net.specs.Network.{Network}
use Rattle.bt_flow.specs.declared.property.Property.TheVariants.{Unlimited, Full}
use Rattle.bt_flow.specs.Properties.{Holds}
use Rattle.bt_gen.specs.declared.wish.Wish.{Wish}

-- the network passes all that the wish asks it to
pub record PassesWished (w : Wish) (n : Network) : Type 0 where
  pub unlimited : IsTrue w.unlimited → Holds n Unlimited
  pub full : IsTrue w.full → Holds n Full

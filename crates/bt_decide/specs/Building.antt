-- What a network that is built for a wish has.
use Rattle.std.specs.Prelude.{◌≡◌, ℕ, IsTrue, All}
use Rattle.bt_net.specs.Network.{Network, IsNetwork}
use Rattle.bt_flow.specs.declared.property.Property.{Property}
use Rattle.bt_flow.specs.Properties.{Holds}
use Rattle.bt_gen.specs.declared.wish.Wish.{Wish}
use Rattle.bt_gen.specs.Wishes.{wishes_for}

-- the network has each property of the wish
abbrev pub Grants : Wish → Network → Type 0
Grants w n = (p : Property) → IsTrue (wishes_for w p) → Holds n p

-- it is a network of so many inputs and outputs, every edge has the cap 1, and it has each property of the wish
pub record IsBuilt (w : Wish) (inputs outputs : ℕ) (n : Network) : Type 0 where
  pub network : IsNetwork n
  pub inputs_are : n.inputs ≡ inputs
  pub outputs_are : n.outputs ≡ outputs
  pub caps : All (λ e. e.cap ≡ 1) n.edges
  pub grants : Grants w n

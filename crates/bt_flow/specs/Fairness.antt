-- What sharing fairly has to do with carrying the same.
use Rattle.std.specs.Prelude.{◌≡◌, ℕ, IsTrue}
use Rattle.bt_net.specs.declared.network.Edge.{Edge}
use Rattle.bt_net.specs.Network.{Network, IsNetwork}
use Rattle.bt_flow.specs.declared.property.Property.TheVariants.{Balanced, Fair}
use Rattle.bt_flow.specs.Steady.{HasEdge}
use Rattle.bt_flow.specs.Properties.{is_last, Holds}

-- the edges of all outputs have this cap
abbrev pub HaveOutputCap : Network → ℕ → Type 0
HaveOutputCap n cap = (a : ℕ) (e : Edge) → HasEdge n a e → IsTrue (is_last e) → e.cap ≡ cap

-- where the edges of all outputs have one cap, a network that is fair is balanced
abbrev pub FairIsBalanced : Type 0
FairIsBalanced = (n : Network) (cap : ℕ) → IsNetwork n → HaveOutputCap n cap → Holds n Fair → Holds n Balanced

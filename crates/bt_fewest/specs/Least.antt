-- The fewest splitters with which a network has what is wished for.
use Rattle.std.specs.Prelude.{◌≡◌, ℕ, ◌<◌, List, All}
use Rattle.bt_net.specs.Network.{Network, IsNetwork, HasNoPriorities}
use Rattle.bt_flow.specs.declared.property.Property.{Property}
use Rattle.bt_flow.specs.Properties.{Holds}
use Rattle.bt_fewest.specs.Ways.{IsServed}

-- a network is plain: each cap is 1, and no splitter prefers an edge
pub record IsPlain (n : Network) : Type 0 where
  pub network : IsNetwork n
  pub caps : All (λ e. e.cap ≡ 1) n.edges
  pub no_priorities : HasNoPriorities n

-- the network is plain, has these numbers of inputs and outputs, is served, and has each of the properties
pub record Does (wish : List Property) (inputs outputs : ℕ) (n : Network) : Type 0 where
  pub plain : IsPlain n
  pub inputs_are : n.inputs ≡ inputs
  pub outputs_are : n.outputs ≡ outputs
  pub served : IsServed n
  pub holds : All (Holds n) wish

-- no network of fewer splitters does it
abbrev pub IsLeast : List Property → ℕ → ℕ → ℕ → Type 0
IsLeast wish inputs outputs splitters = (n : Network) → Does wish inputs outputs n → n.splitters < splitters → ⊥

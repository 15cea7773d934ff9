-- Networks of which one asks more of its splitters than the other.
use Rattle.std.specs.Prelude.{◌≡◌, ℕ, true, ◌⊎◌}
use Rattle.bt_net.specs.Network.{Network, IsNetwork, take_of, merges_any}
use Rattle.bt_net.specs.Priorities.{preferring, merging}
use Rattle.bt_flow.specs.declared.property.Property.{Property}
use Rattle.bt_flow.specs.States.{Flows}
use Rattle.bt_flow.specs.Steady.{IsSteady}
use Rattle.bt_flow.specs.Properties.{Holds}

-- the second network is the first, but where a splitter of the first may prefer any in edge it may take evenly, or
-- prefer one that is named
pub record HasFewerAny (n m : Network) : Type 0 where
  pub rest : merging (preferring n n.gives m.takes) m.merges ≡ m
  pub takes : (k : ℕ) → (merges_any n k ≡ true) ⊎ ((take_of n k ≡ take_of m k) × (merges_any n k ≡ merges_any m k))

-- then each steady state of the second is one of the first, and what holds of the first holds of the second
abbrev pub FewerLaws : Type 0
FewerLaws = (n m : Network) → IsNetwork n → HasFewerAny n m → ((s : Flows) → IsSteady m s → IsSteady n s) × ((p : Property) → Holds n p → Holds m p)

-- Pairs of states in fractions.
use Rattle.std.specs.Prelude.{◌≡◌}
use Rattle.bt_net.specs.Network.{Network}
use Rattle.bt_flow.specs.States.{Flows, Fractions, StandsFor}

-- the loads of two states are equal, and the rooms
abbrev pub AreAlike : Fractions → Fractions → Type 0
AreAlike x y = (x.loads ≡ y.loads) × (x.rooms ≡ y.rooms)

-- the fractions of two states, each of its network, stand for whole numbers over one denominator
pub record StandForBoth (a b : Network) (x y : Fractions) (s t : Flows) : Type 0 where
  pub first : StandsFor a x s
  pub second : StandsFor b y t
  pub denominator : s.denominator ≡ t.denominator

-- the fractions stand for some whole numbers over one denominator, and the claim is true of all for which they stand
pub record IsTrueOfBoth (a b : Network) (x y : Fractions) (Claim : Flows → Flows → Type 0) : Type 0 where
  pub some : (s : Flows) × ((t : Flows) × StandForBoth a b x y s t)
  pub each : (s t : Flows) → StandForBoth a b x y s t → Claim s t

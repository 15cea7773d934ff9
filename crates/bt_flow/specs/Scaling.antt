-- States whose denominator and numbers are so many times as great: they stand for the same fractions.
use Rattle.std.specs.Prelude.{ℕ, ◌<◌, ◌*◌, pos, ◌*ℤ◌, map}
use Rattle.bt_net.specs.Network.{Network}
use Rattle.bt_flow.specs.States.{Flows, IsStateOf}
use Rattle.bt_flow.specs.Steady.{IsSteady}
use Rattle.bt_flow.specs.Properties.{IsAdmissible}

-- the state with its denominator and its numbers so many times as great, and the same marks
abbrev pub scaled : ℕ → Flows → Flows
scaled k s = record {
  denominator = s.denominator * k;
  flows = map (λ z. z *ℤ pos k) s.flows;
  backed = s.backed;
  loads = map (λ z. z *ℤ pos k) s.loads;
  rooms = map (λ z. z *ℤ pos k) s.rooms;
}

-- a state of the network that is admissible and steady
pub record IsSteadyState (n : Network) (s : Flows) : Type 0 where
  pub state : IsStateOf n s
  pub admissible : IsAdmissible n s
  pub steady : IsSteady n s

-- an admissible steady state that is a positive number of times as great is one too
abbrev pub ScaledIsSteady : Type 0
ScaledIsSteady = (n : Network) (s : Flows) (k : ℕ) → 0 < k → IsSteadyState n s → IsSteadyState n (scaled k s)

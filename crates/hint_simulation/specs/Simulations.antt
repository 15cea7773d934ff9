-- What a simulation gives: so many numbers and marks as the network has edges and ends, in range.
use Rattle.std.specs.Prelude.{◌≡◌, ℕ, ◌*◌, ◌≤◌, length}
use Rattle.std.specs.List.{AllZip}
use Rattle.bt_net.specs.declared.network.Edge.{Edge}
use Rattle.bt_net.specs.Network.{Network}
use Rattle.hint_simulation.specs.declared.belt.TheConstants.{UNIT}
use Rattle.hint_simulation.specs.declared.simulation.Simulated.{Simulated}
use Rattle.hint_simulation.specs.declared.case.Case.{Case}

-- a flow in parts of `UNIT` is at most the cap of its edge
abbrev pub IsWithinCap : Edge → ℕ → Type 0
IsWithinCap e flow = flow ≤ e.cap * UNIT

-- for each edge a flow within its cap, and a mark
pub record IsSimulated (n : Network) (s : Simulated) : Type 0 where
  pub flows : AllZip IsWithinCap n.edges s.flows.items
  pub marks : length s.backed.items ≡ length n.edges

-- a load for each input and a room for each output
pub record IsCase (n : Network) (c : Case) : Type 0 where
  pub loads : length c.loads.items ≡ n.inputs
  pub rooms : length c.rooms.items ≡ n.outputs

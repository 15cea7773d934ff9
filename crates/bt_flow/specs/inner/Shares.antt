-- Ends that share: none that is short of what it may carry carries less than another.
use Rattle.std.specs.Prelude.{ℕ, ℤ, ◌<◌, ◌≤ℤ◌, ◌<ℤ◌, IsTrue, List, Option, Some, None, length}
use Rattle.bt_frac.specs.Ratio.{Ratio}
use Rattle.bt_net.specs.declared.network.Edge.{Edge}
use Rattle.bt_net.specs.Network.{Network}
use Rattle.bt_flow.specs.declared.ports.End.{End}
use Rattle.bt_flow.specs.declared.ports.End.TheVariants.{Input, Output}
use Rattle.bt_flow.specs.declared.ports.Role.{Role}
use Rattle.bt_flow.specs.Ports.{plays, role_of}
use Rattle.bt_flow.specs.States.{Flows, Fractions, StandsFor, flow_at, load_at, room_at}
use Rattle.bt_flow.specs.Steady.{HasEdge}

-- the edge with this number has the role at some number
abbrev pub Takes : Network → Role → ℕ → Type 0
Takes n r a = (k : ℕ) × ((e : Edge) × HasEdge n a e × IsTrue (plays r k e))

-- what the ends may carry, as fractions
abbrev pub limits_of : End → Fractions → List Ratio
limits_of Input t = t.loads
limits_of Output t = t.rooms

-- what an end may carry: the load of an input, the room of an output
abbrev pub limit_at : End → Flows → ℕ → ℤ
limit_at Input s i = load_at s i
limit_at Output s o = room_at s o

-- of the edges below a place none has the role, or this one has it, and no other of them has a greater flow
abbrev pub IsGreatest : Network → Fractions → Role → ℕ → Option ℕ → Type 0
IsGreatest n t r place None = (a : ℕ) → a < place → Takes n r a → ⊥
IsGreatest n t r place (Some most) = (most < length n.edges) × Takes n r most
    × ((s : Flows) → StandsFor n t s → (a : ℕ) → a < place → Takes n r a → flow_at s a ≤ℤ flow_at s most)

-- each end that is short carries at least as much as every other
abbrev pub Shares : Network → End → Flows → Type 0
Shares n end s = (i j a b : ℕ) (e f : Edge) → HasEdge n a e → HasEdge n b f → IsTrue (plays (role_of end) i e) → IsTrue (plays (role_of end) j f)
    → flow_at s a <ℤ limit_at end s i → flow_at s b ≤ℤ flow_at s a

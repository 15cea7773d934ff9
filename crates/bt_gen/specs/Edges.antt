-- Edges of a cap of 1.
use Rattle.std.specs.Prelude.{ℕ}
use Rattle.bt_net.specs.declared.network.Edge.{Edge}
use Rattle.bt_net.specs.declared.network.Start.{Start}
use Rattle.bt_net.specs.declared.network.Start.TheVariants as from
use Rattle.bt_net.specs.declared.network.Target.{Target}

-- an edge between two ends
abbrev pub edge : Start → Target → Edge
edge start target = record { start = start; target = target; cap = 1 }

-- the edge from an input
abbrev pub from_input : ℕ → Target → Edge
from_input i target = edge (from.Input i) target

-- an edge from a splitter
abbrev pub from_splitter : ℕ → Target → Edge
from_splitter s target = edge (from.Split s) target

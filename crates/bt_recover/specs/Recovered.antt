-- What `recover` tells of a layout: the network that it shows, or the first refusal.
use Rattle.std.specs.Prelude.{ℕ, ◌<◌, List, Result, Ok, Err}
use Rattle.bt_parts.specs.declared.part.Part.{Part}
use Rattle.bt_parts.specs.Layouts.{IsUnpaired}
use Rattle.bt_net.specs.Network.{Network, HasNoPriorities, IsNetwork, IsLarge, LacksEnds}
use Rattle.bt_model.specs.Shown.{Naming, IsNumbered}
use Rattle.bt_model.specs.Clean.{IsSideLoaded, IsBlocked, IsOnRing}
use Rattle.bt_model.specs.Orderly.{Never, AllPaired, IsOrderly}
use Rattle.bt_recover.specs.declared.fault.RecoverFault.{RecoverFault}
use Rattle.bt_recover.specs.declared.fault.RecoverFault.TheVariants.{Unpaired, SideLoad, Blocked, Ring, TooLarge, NoEnds, Memory}
use Rattle.bt_recover.specs.declared.recovery.Traced.{Traced}

-- the network that was recovered, and which parts bear its numbers
abbrev pub network_and_naming : Traced → Network × Naming
network_and_naming traced =
    (traced.net, record { splitters = traced.splitters.items; inputs = traced.inputs.items; outputs = traced.outputs.items })

-- i is of this kind, and no lesser number is
abbrev pub IsFirst : (ℕ → Type 0) → ℕ → Type 0
IsFirst P i = P i × ((j : ℕ) → j < i → P j → ⊥)

-- the right answer to a layout in which no two parts share a cell: its network with its own numbering, in which no
-- splitter prefers an edge, and which parts bear the numbers; or the first fault in this order, of the least part: a
-- piece in no pair, side-loading, a part that looks at one that blocks it, a ring, too many of a kind, no input or no
-- output
abbrev pub IsRecovered : List Part → Result (Network × Naming) RecoverFault → Type 0
IsRecovered parts (Ok found) = IsNumbered parts found.0 found.1 × IsNetwork found.0 × HasNoPriorities found.0
IsRecovered parts (Err (Unpaired i)) = IsFirst (IsUnpaired parts) i
IsRecovered parts (Err (SideLoad i)) = AllPaired parts × IsFirst (IsSideLoaded parts) i
IsRecovered parts (Err (Blocked i)) = AllPaired parts × Never (IsSideLoaded parts) × IsFirst (IsBlocked parts) i
IsRecovered parts (Err (Ring i)) = IsOrderly parts × IsFirst (IsOnRing parts) i
IsRecovered parts (Err TooLarge) = (net : Network) × (naming : Naming) × IsNumbered parts net naming × HasNoPriorities net × IsLarge net
IsRecovered parts (Err NoEnds) = (net : Network) × (naming : Naming) × IsNumbered parts net naming × HasNoPriorities net × LacksEnds net
IsRecovered parts (Err Memory) = ⊥

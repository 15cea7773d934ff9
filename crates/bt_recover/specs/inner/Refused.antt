-- Refusals on the way to the network of a layout.
use Rattle.std.specs.Prelude.{◌≡◌, List, Result, Ok, Err}
use Rattle.bt_text.specs.Answers.{UnlessMemory}
use Rattle.bt_parts.specs.declared.part.Part.{Part}
use Rattle.bt_recover.specs.declared.pairing.PairFault.{PairFault}
use Rattle.bt_recover.specs.declared.pairing.PairFault.TheVariants as pair
use Rattle.bt_net.specs.declared.fault.NetFault.{NetFault}
use Rattle.bt_net.specs.declared.fault.NetFault.TheVariants as net
use Rattle.bt_net.specs.Network.{Network, IsNetwork, IsLarge, LacksEnds}
use Rattle.bt_recover.specs.declared.fault.RecoverFault.{RecoverFault}
use Rattle.bt_recover.specs.declared.fault.RecoverFault.TheVariants.{Unpaired, SideLoad, Blocked, Ring, TooLarge, NoEnds, Memory}
use Rattle.bt_recover.specs.Recovered.{IsRecovered}

-- the layout is refused with this fault, unless it is the one that tells want of memory
abbrev pub IsRefused : List Part → RecoverFault → Type 0
IsRefused parts fault = UnlessMemory Memory (IsRecovered parts) (Err fault)

-- the same fault, of the pairs
abbrev pub fault_of : PairFault → RecoverFault
fault_of (pair.Unpaired i) = Unpaired i
fault_of pair.Memory = Memory

-- the fault of a network by its size
abbrev pub size_fault : NetFault → RecoverFault
size_fault net.TooLarge = TooLarge
size_fault net.NoEnds = NoEnds
size_fault (net.NetLine k) = NoEnds
size_fault net.Memory = NoEnds

-- what is told of a wired network: itself, or the fault that it is too large or lacks an end
abbrev pub IsNetTold : Network → Result Network RecoverFault → Type 0
IsNetTold n (Ok m) = (m ≡ n) × IsNetwork m
IsNetTold n (Err TooLarge) = IsLarge n
IsNetTold n (Err NoEnds) = LacksEnds n
IsNetTold n (Err (Unpaired i)) = ⊥
IsNetTold n (Err (SideLoad i)) = ⊥
IsNetTold n (Err (Blocked i)) = ⊥
IsNetTold n (Err (Ring i)) = ⊥
IsNetTold n (Err Memory) = ⊥

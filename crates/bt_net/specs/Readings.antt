-- What is read of a text: the network with which it begins, its pins, its sides, its rows and its blocks, or why there
-- is none.
use Rattle.std.specs.Prelude.{◌≡◌, ℕ, ◌+◌, ◌≤◌, List, [], ◌∷◌, ◌++◌, length, drop, codes, Result, Ok, Err}
use Rattle.std.specs.List.{AllZip}
use Rattle.bt_text.specs.Lines.{BeginsWithLines}
use Rattle.bt_net.specs.declared.fault.NetFault.{NetFault}
use Rattle.bt_net.specs.declared.network.Admitted.{Admitted}
use Rattle.bt_net.specs.declared.network.Admitted.TheVariants.{Priorities}
use Rattle.bt_net.specs.declared.network.Block.{Block}
use Rattle.bt_net.specs.declared.network.Demand.{Demand}
use Rattle.bt_net.specs.declared.network.Priority.{Priority}
use Rattle.bt_net.specs.declared.reading.NetRead.{NetRead}
use Rattle.bt_net.specs.Network.{Network, IsNetwork, HasNoPriorities}
use Rattle.bt_net.specs.NetText.{header, net_text, alone, IsEdgeLine}
use Rattle.bt_net.specs.PinText.{AreLinesFrom, IsDemandHere, IsBlockHere}
use Rattle.bt_net.specs.PinRefusals.{RefusesAll}
use Rattle.bt_net.specs.Priorities.{IsPriorityHere, Becomes, priorities_of}

-- a network with the edges that its splitters prefer, its pins, sides and rows in their order, its blocks, and how many
-- bytes and lines its text has
pub record Reading : Type 0 where
  pub net : Network
  pub demands : List Demand
  pub blocks : List Block
  pub used : ℕ
  pub lines : ℕ

-- what a call of `read` tells
abbrev pub what_is_read : NetRead → Reading
what_is_read read = record { net = read.net; demands = read.demands.items; blocks = read.blocks.items; used = read.used; lines = read.lines }

-- the bytes begin with the lines of what was read: the header of the network, a line for each edge, for each priority,
-- for each pin, side or row and for each block, in their orders, and `end`; the last line feed may be missing at the
-- end of the bytes, and this is what follows
pub record BeginsWithAll (may : Admitted) (bytes : List ℕ) (read : Reading) (rest : List ℕ) : Type 0 where
  pub edge_lines : List (List ℕ)
  pub are_edges : AllZip IsEdgeLine edge_lines read.net.edges
  pub priorities : List Priority
  pub priority_lines : List (List ℕ)
  pub are_priorities : AreLinesFrom (IsPriorityHere may (alone read.net)) (length read.net.edges + 2) priority_lines priorities
  pub becomes : Becomes (alone read.net) priorities read.net
  pub demand_lines : List (List ℕ)
  pub are_demands : AreLinesFrom (IsDemandHere may (alone read.net)) (length read.net.edges + length priorities + 2) demand_lines read.demands
  pub block_lines : List (List ℕ)
  pub are_blocks : AreLinesFrom (IsBlockHere may) (length read.net.edges + length priorities + length read.demands + 2) block_lines read.blocks
  pub begins : BeginsWithLines bytes (header read.net ∷ edge_lines ++ (priority_lines ++ (demand_lines ++ (block_lines ++ codes "end" ∷ [])))) rest

-- the text of what was read stands at the front of the bytes and has so many bytes and lines
pub record StandsAtFront (may : Admitted) (bytes : List ℕ) (read : Reading) : Type 0 where
  pub network : IsNetwork read.net
  pub begins : BeginsWithAll may bytes read (drop read.used bytes)
  pub used : read.used ≤ length bytes
  pub lines : read.lines ≡ length read.net.edges + length begins.priorities + length read.demands + length read.blocks + 2

-- what is told of the network, its priorities, the pins, sides and rows and the blocks at the front of the bytes, where
-- such lines may stand: how their text stands there, or why none does, which never is want of memory
abbrev pub IsNetRead : Admitted → List ℕ → Result Reading NetFault → Type 0
IsNetRead may bytes (Ok read) = StandsAtFront may bytes read
IsNetRead may bytes (Err fault) = RefusesAll may bytes fault

-- what is told of the network at the front of the bytes, maybe with priorities, where a line of a pin, a side, a row or
-- a block is none that may stand
abbrev pub IsPlainRead : List ℕ → Result Reading NetFault → Type 0
IsPlainRead = IsNetRead Priorities

-- what there is to read of a network's own text: that network, no pins, no sides, no rows, no blocks, and the whole
-- text, which has a line for each priority
abbrev pub whole_reading : Network → Reading
whole_reading n = record { net = n; demands = []; blocks = []; used = length (net_text n); lines = length n.edges + length (priorities_of n) + 2 }

-- the text that is printed of a network is read as that network, with the edges that its splitters prefer, where lines
-- of priorities may stand
abbrev pub PrintedIsPlain : Type 0
PrintedIsPlain = (n : Network) → IsNetwork n → IsPlainRead (net_text n) (Ok (whole_reading n))

-- and where none prefers an edge, whatever may stand
abbrev pub PrintedIsRead : Type 0
PrintedIsRead = (may : Admitted) (n : Network) → IsNetwork n → HasNoPriorities n → IsNetRead may (net_text n) (Ok (whole_reading n))

-- a text without pins, sides, rows, blocks and preferred edges is read alike whatever may stand
abbrev pub ReadAlike : Type 0
ReadAlike = (may other : Admitted) (bytes : List ℕ) (read : Reading) → IsNetRead may bytes (Ok read) → HasNoPriorities read.net → read.demands ≡ [] → read.blocks ≡ [] → IsNetRead other bytes (Ok read)

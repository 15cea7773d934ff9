-- The text of a network: a line of its counts, a line for each edge and for each priority, and the line `end`.
use Rattle.std.specs.Prelude.{◌≡◌, ◌==◌, ◌+◌, ℕ, length, List, [], ◌∷◌, ◌++◌, ◌⊎◌, if◌then◌else◌, codes, decimal}
use Rattle.std.specs.List.{flat_map, AllZip}
use Rattle.bt_text.specs.Lines.{BeginsWithLines}
pub use Rattle.bt_text.specs.Lines.{line}
use Rattle.bt_net.specs.declared.network.Edge.{Edge}
use Rattle.bt_net.specs.declared.network.Start.{Start}
use Rattle.bt_net.specs.declared.network.Start.TheVariants as from
use Rattle.bt_net.specs.declared.network.Target.{Target}
use Rattle.bt_net.specs.declared.network.Target.TheVariants as to
use Rattle.bt_net.specs.declared.network.Priority.{Priority}
use Rattle.bt_net.specs.Network.{Network, network_of}
use Rattle.bt_net.specs.PinText.{AreLinesFrom}
use Rattle.bt_net.specs.Priorities.{priorities_text, IsPriorityLine, Becomes}

-- `i` and the number of an input, or `s` and that of a splitter
abbrev pub start_text : Start → List ℕ
start_text (from.Input i) = codes "i" ++ decimal i
start_text (from.Split s) = codes "s" ++ decimal s

-- `s` and the number of a splitter, or `o` and that of an output
abbrev pub target_text : Target → List ℕ
target_text (to.Split s) = codes "s" ++ decimal s
target_text (to.Output o) = codes "o" ++ decimal o

-- `net` and the numbers of inputs, outputs and splitters
abbrev pub header : Network → List ℕ
header n = codes "net " ++ decimal n.inputs ++ codes " " ++ decimal n.outputs ++ codes " " ++ decimal n.splitters

-- `edge` and the two ends of an edge
abbrev pub ends_text : Edge → List ℕ
ends_text e = codes "edge " ++ start_text e.start ++ codes " " ++ target_text e.target

-- a space and the cap of an edge
abbrev pub cap_text : ℕ → List ℕ
cap_text cap = codes " " ++ decimal cap

-- the line of an edge: its ends and its cap, which need not be written where it is 1
abbrev pub IsEdgeLine : List ℕ → Edge → Type 0
IsEdgeLine bytes e = (bytes ≡ ends_text e ++ cap_text e.cap) ⊎ ((bytes ≡ ends_text e) × (e.cap ≡ 1))

-- the line of an edge as it is printed: its ends, and its cap where that isn't 1
abbrev pub edge_text : Edge → List ℕ
edge_text e = ends_text e ++ (if e.cap == 1 then [] else cap_text e.cap)

-- the text of a network as it is printed
abbrev pub net_text : Network → List ℕ
net_text n = line (header n) ++ flat_map (λ e. line (edge_text e)) n.edges ++ priorities_text n ++ line (codes "end")

-- the network without its priorities
abbrev pub alone : Network → Network
alone n = network_of n.inputs n.outputs n.splitters n.edges

-- the bytes begin with the lines of the network: its header, a line for each edge in their order and for each priority
-- in any order, and `end`; the last line feed may be missing at the end of the bytes, and this is what follows
pub record BeginsWithNet (bytes : List ℕ) (n : Network) (rest : List ℕ) : Type 0 where
  pub edge_lines : List (List ℕ)
  pub are_edges : AllZip IsEdgeLine edge_lines n.edges
  pub priorities : List Priority
  pub priority_lines : List (List ℕ)
  pub are_priorities : AreLinesFrom (IsPriorityLine (alone n)) (length n.edges + 2) priority_lines priorities
  pub becomes : Becomes (alone n) priorities n
  pub begins : BeginsWithLines bytes (header n ∷ edge_lines ++ (priority_lines ++ codes "end" ∷ [])) rest

-- Where a text with priorities, pins, sides, rows and blocks stops to be the text of a network.
use Rattle.std.specs.Prelude.{◌≡◌, ℕ, ◌+◌, ◌≤◌, ◌⊎◌, List, [], ◌∷◌, length, codes}
use Rattle.bt_text.specs.Lines.{IsFirstLine}
use Rattle.bt_net.specs.declared.fault.NetFault.{NetFault}
use Rattle.bt_net.specs.declared.fault.NetFault.TheVariants.{NetLine, TooLarge, NoEnds, Memory}
use Rattle.bt_net.specs.declared.network.Admitted.{Admitted}
use Rattle.bt_net.specs.declared.network.Block.{Block}
use Rattle.bt_net.specs.declared.network.Edge.{Edge}
use Rattle.bt_net.specs.declared.network.Demand.{Demand}
use Rattle.bt_net.specs.declared.network.Priority.{Priority}
use Rattle.bt_net.specs.declared.network.TheConstants.{MOST_OF_EACH}
use Rattle.bt_net.specs.Network.{Network, IsWired}
use Rattle.bt_net.specs.NetText.{header, IsEdgeLine}
use Rattle.bt_net.specs.PinText.{IsDemandHere, IsBlockHere}
use Rattle.bt_net.specs.Priorities.{IsPriorityHere, IsFreeFor, Becomes}
use Rattle.bt_net.specs.Refusals.{HeaderRefused, LineRefused, BeginsWithEdges}
use Rattle.bt_net.specs.Wiring.{IsPartlyWired, with_edge, HasSmallSizes}

-- what stands behind the edges of a network: priorities, by which it becomes another, then pins, sides and rows, then
-- blocks
pub record Behind : Type 0 where
  pub priorities : List Priority
  pub preferring : Network
  pub demands : List Demand
  pub blocks : List Block

-- the number of the line that follows them
abbrev pub next_line : Network → Behind → ℕ
next_line n behind = length n.edges + length behind.priorities + length behind.demands + length behind.blocks + 2

-- this line, with this number, may not stand after the edges of the network and what stands behind them: it is not
-- `end`, or an input or an output has no edge; it is the line of no edge that may stand, or other lines came before; it
-- is the line of no priority that may stand and for which its splitter is free, or lines of later kinds came before; it
-- is the line of no pin, side or row that may stand, or blocks came before; and it is that of no block that may
pub record MayNotFollow (may : Admitted) (n : Network) (behind : Behind) (number : ℕ) (bytes : List ℕ) : Type 0 where
  pub no_end : bytes ≡ codes "end" → IsWired n → ⊥
  pub no_edge : behind.priorities ≡ [] → behind.demands ≡ [] → behind.blocks ≡ [] → (e : Edge) → IsEdgeLine bytes e → IsPartlyWired (with_edge n e) → ⊥
  pub no_priority : behind.demands ≡ [] → behind.blocks ≡ [] → (p : Priority) → IsPriorityHere may n 0 bytes p → IsFreeFor behind.preferring p → ⊥
  pub no_demand : behind.blocks ≡ [] → (demand : Demand) → IsDemandHere may n number bytes demand → ⊥
  pub no_block : (block : Block) → IsBlockHere may number bytes block → ⊥

-- why this line, with this number, is refused there: it may not stand; or it is one edge too many, or ends a network
-- without inputs or without outputs
abbrev pub LineRefusedAfter : Admitted → Network → Behind → ℕ → List ℕ → NetFault → Type 0
LineRefusedAfter may n behind number bytes (NetLine k) = MayNotFollow may n behind number bytes × (k ≡ number)
LineRefusedAfter may n behind number bytes TooLarge = (behind.priorities ≡ []) × (behind.demands ≡ []) × (behind.blocks ≡ []) × LineRefused n bytes TooLarge
LineRefusedAfter may n behind number bytes NoEnds = LineRefused n bytes NoEnds
LineRefusedAfter may n behind number bytes Memory = ⊥

-- the text begins with lines of these, one by one, of which the first has this number, and this is what follows
abbrev pub BeginsWithItems : {X : Type 0} → (ℕ → List ℕ → X → Type 0) → ℕ → List ℕ → List X → List ℕ → Type 0
BeginsWithItems IsLine number text [] rest = text ≡ rest
BeginsWithItems IsLine number text (x ∷ xs) rest = (bytes : List ℕ) × (after : List ℕ) × IsFirstLine text bytes after × IsLine number bytes x
    × BeginsWithItems IsLine (number + 1) after xs rest

-- the text goes on with lines of the network's edges so far, which may stand, then of priorities, by which it becomes
-- another network, then of pins, sides and rows in any order, then of blocks, and then with this line
pub record GoesOnAfter (may : Admitted) (n : Network) (behind : Behind) (text bytes after : List ℕ) : Type 0 where
  pub wired : IsPartlyWired n
  pub few : length n.edges ≤ MOST_OF_EACH
  pub after_edges : List ℕ
  pub edges : BeginsWithEdges text n.edges after_edges
  pub after_priorities : List ℕ
  pub priority_lines : BeginsWithItems (IsPriorityHere may n) (length n.edges + 2) after_edges behind.priorities after_priorities
  pub becomes : Becomes n behind.priorities behind.preferring
  pub after_demands : List ℕ
  pub demand_lines : BeginsWithItems (IsDemandHere may n) (length n.edges + length behind.priorities + 2) after_priorities behind.demands after_demands
  pub after_blocks : List ℕ
  pub block_lines : BeginsWithItems (IsBlockHere may) (length n.edges + length behind.priorities + length behind.demands + 2) after_demands behind.blocks after_blocks
  pub next : IsFirstLine after_blocks bytes after

-- behind a header, why the line after the edges so far and what stands behind them is refused
pub record BodyRefused (may : Admitted) (n : Network) (text : List ℕ) (fault : NetFault) : Type 0 where
  pub behind : Behind
  pub bytes : List ℕ
  pub after : List ℕ
  pub goes_on : GoesOnAfter may n behind text bytes after
  pub refused : LineRefusedAfter may n behind (next_line n behind) bytes fault

-- why a text begins with no network: its first line is refused, or it is the header of a network, and behind it a line
-- is refused
abbrev pub RefusesAll : Admitted → List ℕ → NetFault → Type 0
RefusesAll may text fault = (first rest : List ℕ) × IsFirstLine text first rest
    × (HeaderRefused first fault ⊎ ((n : Network) × (first ≡ header n) × HasSmallSizes n × BodyRefused may n rest fault))

-- The network that a layout shows.
use Rattle.std.specs.Prelude.{◌≡◌, ◌≢◌, ℕ, ◌<◌, List, length, slice_get, Some, ◌⊎◌, ⊤, Contains, AllPairs, IsPermutation, ◌<ℤ◌}
use Rattle.std.specs.List.{AllZip}
use Rattle.bt_parts.specs.declared.part.Cell.{Cell}
use Rattle.bt_parts.specs.declared.part.Part.{Part}
use Rattle.bt_parts.specs.Layouts.{HasPart}
use Rattle.bt_net.specs.declared.network.Edge.{Edge}
use Rattle.bt_net.specs.declared.network.Start.{Start}
use Rattle.bt_net.specs.declared.network.Start.TheVariants as from
use Rattle.bt_net.specs.declared.network.Target.{Target}
use Rattle.bt_net.specs.declared.network.Target.TheVariants as to
use Rattle.bt_net.specs.Network.{Network}
use Rattle.bt_model.specs.Chains.{IsSplitter, IsInput, IsOutput, Source, begins, leaves, Sink, ends, enters, Chain, IsChain}
use Rattle.bt_model.specs.Clean.{IsClean}
use Rattle.bt_model.specs.Speeds.{IsCapOf}

-- which part bears each number: a splitter, the first part of an input, and the last of an output
pub record Naming : Type 0 where
  pub splitters : List ℕ
  pub inputs : List ℕ
  pub outputs : List ℕ

-- the list has each thing of this kind exactly once
pub record ListsEach {X : Type 0} (P : X → Type 0) (xs : List X) : Type 0 where
  pub all : (x : X) → P x → Contains xs x
  pub only : (x : X) → Contains xs x → P x
  pub once : AllPairs ◌≢◌ xs

-- the naming is one to one from the numbers of the network onto the parts of their kind
pub record IsNaming (parts : List Part) (net : Network) (naming : Naming) : Type 0 where
  pub splitters : ListsEach (IsSplitter parts) naming.splitters
  pub inputs : ListsEach (IsInput parts) naming.inputs
  pub outputs : ListsEach (IsOutput parts) naming.outputs
  pub splitter_count : net.splitters ≡ length naming.splitters
  pub input_count : net.inputs ≡ length naming.inputs
  pub output_count : net.outputs ≡ length naming.outputs

-- the start of an edge is the number of where a chain starts
abbrev pub IsStartOf : Naming → Source → Start → Type 0
IsStartOf naming (begins i cell) (from.Input k) = slice_get naming.inputs k ≡ Some i
IsStartOf naming (begins i cell) (from.Split k) = ⊥
IsStartOf naming (leaves s half) (from.Input k) = ⊥
IsStartOf naming (leaves s half) (from.Split k) = slice_get naming.splitters k ≡ Some s

-- the target of an edge is the number of where a chain ends
abbrev pub IsTargetOf : Naming → Sink → Target → Type 0
IsTargetOf naming (ends i) (to.Output k) = slice_get naming.outputs k ≡ Some i
IsTargetOf naming (ends i) (to.Split k) = ⊥
IsTargetOf naming (enters s) (to.Output k) = ⊥
IsTargetOf naming (enters s) (to.Split k) = slice_get naming.splitters k ≡ Some s

-- the edge stands for the chain, and its cap is the chain's
pub record IsEdgeOf (parts : List Part) (naming : Naming) (chain : Chain) (edge : Edge) : Type 0 where
  pub start : IsStartOf naming chain.source edge.start
  pub target : IsTargetOf naming chain.sink edge.target
  pub cap : IsCapOf parts chain edge.cap

-- the clean layout shows the network under this naming: its edges stand for the chains, in some order. For example of
-- three parts, all basic and to the north: a belt (0) below the western half of a splitter (1), and a belt (2) above
-- that half. The belts are an input and an output, so the naming is `splitters = [1]`, `inputs = [0]`, `outputs = [2]`.
-- There are two chains: one begins at belt 0, has belt 0 alone for a link, and enters splitter 1; one leaves splitter 1
-- by its western half, has belt 2 for a link, and ends there. The eastern half hands on to nothing, so no chain starts
-- there. The network has the edges from input 0 to splitter 0 and from splitter 0 to output 0, both of cap 1, since
-- there is one tier. Were belt 2 a fast one, there were two tiers, and caps were speeds: 1 and 1, since the splitter at
-- the end of each chain counts; were the splitter fast too, 1 and 2
pub record Shows (parts : List Part) (net : Network) (naming : Naming) : Type 0 where
  pub clean : IsClean parts
  pub names : IsNaming parts net naming
  pub chains : List Chain
  pub each_once : ListsEach (IsChain parts) chains
  pub edges : List Edge
  pub named : AllZip (IsEdgeOf parts naming) chains edges
  pub same : IsPermutation edges net.edges

-- the lesser x comes first, and of equal x the lesser y
abbrev pub Precedes : Cell → Cell → Type 0
Precedes a b = (a.x <ℤ b.x) ⊎ ((a.x ≡ b.x) × (a.y <ℤ b.y))

-- the cell of the one part comes before that of the other
pub record IsPlacedBefore (parts : List Part) (i j : ℕ) : Type 0 where
  pub one : Part
  pub is_i : HasPart parts i one
  pub other : Part
  pub is_j : HasPart parts j other
  pub before : Precedes one.cell other.cell

-- splitters are numbered in the order of the parts, and ends by the cells of their parts
pub record IsNumbering (parts : List Part) (naming : Naming) : Type 0 where
  pub splitters : AllPairs ◌<◌ naming.splitters
  pub inputs : AllPairs (IsPlacedBefore parts) naming.inputs
  pub outputs : AllPairs (IsPlacedBefore parts) naming.outputs

-- the one start comes before the other: inputs by their cells, then splitters by their indices, and of a splitter the
-- lesser half first
abbrev pub ComesBefore : Source → Source → Type 0
ComesBefore (begins i a) (begins j b) = Precedes a b
ComesBefore (begins i a) (leaves s b) = ⊤
ComesBefore (leaves s a) (begins i b) = ⊥
ComesBefore (leaves s a) (leaves t b) = (s < t) ⊎ ((s ≡ t) × Precedes a b)

-- the clean layout has the network with its own numbering: splitters and ends in their orders, and for each chain one
-- edge, in the order of their starts
pub record IsNumbered (parts : List Part) (net : Network) (naming : Naming) : Type 0 where
  pub clean : IsClean parts
  pub names : IsNaming parts net naming
  pub numbering : IsNumbering parts naming
  pub chains : List Chain
  pub each_once : ListsEach (IsChain parts) chains
  pub in_order : AllPairs (λ one other. ComesBefore one.source other.source) chains
  pub named : AllZip (IsEdgeOf parts naming) chains net.edges

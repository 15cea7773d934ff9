-- Which part bears each number, and the edges for the chains, on the way to the network.
use Rattle.std.specs.Prelude.{◌≡◌, ◌↔◌, ℕ, ◌<◌, List, [], ◌∷◌, ◌++◌, length, slice_get, slice_index_or, Option, Some, None, MatchOption, Contains, AllPairs, ◌⊎◌, ⊤, Bool, IsTrue, if◌then◌else◌}
use Rattle.std.specs.List.{AllZip}
use Rattle.bt_parts.specs.declared.part.Cell.{Cell}
use Rattle.bt_parts.specs.declared.part.Part.{Part}
use Rattle.bt_parts.specs.Cells.{beside, step}
use Rattle.bt_parts.specs.Layouts.{HasPart}
use Rattle.bt_net.specs.declared.network.Edge.{Edge}
use Rattle.bt_net.specs.declared.network.Start.{Start}
use Rattle.bt_net.specs.declared.network.Target.{Target}
use Rattle.bt_net.specs.declared.network.Target.TheVariants as to
use Rattle.bt_net.specs.Network.{Network, network_of}
use Rattle.bt_model.specs.Handing.{FeedsFrom}
use Rattle.bt_model.specs.Chains.{Path, IsSplitter, IsInput, IsOutput, Source, begins, leaves, Sink, ends, enters, Chain, IsChain, EndsAs}
use Rattle.bt_model.specs.Shown.{Naming, ListsEach, IsNumbering, IsEdgeOf, ComesBefore}
use Rattle.bt_model.specs.Speeds.{IsLeastSpeed, IsOnWay, IsSpeedOf, HasOneTier}
use Rattle.bt_recover.specs.Preferred.{EndsAtHalf}
use Rattle.bt_recover.specs.declared.edges.Joint.{Joint}
use Rattle.bt_recover.specs.declared.edges.Labels.{Labels}
use Rattle.bt_recover.specs.declared.edges.Way.{Way}
use Rattle.bt_recover.specs.declared.ends.Names.{Names}
use Rattle.bt_net.specs.declared.network.TheConstants.{MOST_OF_EACH}

-- which part bears each number
abbrev pub naming_of : Names → Naming
naming_of names = record { splitters = names.splitters.items; inputs = names.inputs.items; outputs = names.outputs.items }

-- each splitter, each input and each output bears one number, in the order of the numbering
pub record AreNames (parts : List Part) (naming : Naming) : Type 0 where
  pub splitters : ListsEach (IsSplitter parts) naming.splitters
  pub inputs : ListsEach (IsInput parts) naming.inputs
  pub outputs : ListsEach (IsOutput parts) naming.outputs
  pub in_order : IsNumbering parts naming

-- there are too many inputs, outputs or splitters
abbrev pub HasMany : Naming → Type 0
HasMany naming = (MOST_OF_EACH < length naming.inputs) ⊎ (MOST_OF_EACH < length naming.outputs) ⊎ (MOST_OF_EACH < length naming.splitters)

-- the table has the place of each listed part in the list
abbrev pub AreNumbered : List ℕ → List ℕ → Type 0
AreNumbered numbers list = (k i : ℕ) → slice_get list k ≡ Some i → slice_index_or numbers i 0 ≡ k

-- the table keeps its entries but for the listed parts
abbrev pub KeepsOthers : List ℕ → List ℕ → List ℕ → Type 0
KeepsOthers list old new = (i : ℕ) → (Contains list i → ⊥) → slice_index_or new i 0 ≡ slice_index_or old i 0

-- the table has the number of each splitter and of each output, by its part
pub record AreNumbers (parts : List Part) (naming : Naming) (numbers : List ℕ) : Type 0 where
  pub count : length numbers ≡ length parts
  pub splitters : AreNumbered numbers naming.splitters
  pub outputs : AreNumbered numbers naming.outputs

-- the numbers are those of the splitters and outputs, and the labels tell whether all parts have one tier
pub record AreLabels (parts : List Part) (naming : Naming) (labels : Labels) : Type 0 where
  pub numbers : AreNumbers parts naming labels.numbers.items
  pub one_tier : IsTrue labels.one_tier ↔ HasOneTier parts

-- the target of a chain that ends here
abbrev pub target_at : List ℕ → Sink → Target
target_at numbers (ends i) = to.Output (slice_index_or numbers i 0)
target_at numbers (enters s) = to.Split (slice_index_or numbers s 0)

-- this is the cell in front of the part with this index
abbrev pub IsFrontOf : List Part → ℕ → Cell → Type 0
IsFrontOf parts i cell = (part : Part) × HasPart parts i part × (cell ≡ step part.dir part.cell)

-- this is the half at which a chain that ends here ends, where that is a splitter
abbrev pub EntersAt : List Part → ℕ → Sink → Option Cell → Type 0
EntersAt parts last (ends i) half = half ≡ None
EntersAt parts last (enters s) half = (cell : Cell) × (feeds : FeedsFrom parts last cell s) × (half ≡ Some (step feeds.look.giver.part.dir cell))

-- a path from this part on leads to this target and this half, and this is the least speed on the way there
pub record LeadsTo (parts : List Part) (numbers : List ℕ) (first : ℕ) (way : Way) : Type 0 where
  pub last : ℕ
  pub links : List ℕ
  pub path : Path parts first last links
  pub sink : Sink
  pub ends_as : EndsAs parts sink last
  pub target_is : way.target ≡ target_at numbers sink
  pub enters_at : EntersAt parts last sink way.sink_half
  pub speed_is : IsLeastSpeed parts (IsOnWay links sink) way.speed

-- the half at which a chain that starts here starts, where that is a splitter
abbrev pub half_of : Source → Option Cell
half_of (begins i cell) = None
half_of (leaves s half) = Some half

-- the chain ends at this half of a splitter, or at none
abbrev pub EndsAtAny : List Part → Chain → Option Cell → Type 0
EndsAtAny parts chain told = MatchOption told
    ((s : ℕ) (half : Cell) → EndsAtHalf parts chain s half → ⊥)
    (λ half. (s : ℕ) × EndsAtHalf parts chain s half)

-- the chain that starts here leads to this target and this half, and has this speed
pub record LeadsFrom (parts : List Part) (numbers : List ℕ) (source : Source) (way : Way) : Type 0 where
  pub chain : Chain
  pub is_chain : IsChain parts chain
  pub source_is : chain.source ≡ source
  pub target_is : way.target ≡ target_at numbers chain.sink
  pub ends_at : EndsAtAny parts chain way.sink_half
  pub speed_is : IsSpeedOf parts chain way.speed

-- no chain starts here
abbrev pub StartsNone : List Part → Source → Type 0
StartsNone parts source = (chain : Chain) → IsChain parts chain → chain.source ≡ source → ⊥

-- the way of the chain that starts here is told, or no chain starts here
abbrev pub LeadsIfAny : List Part → List ℕ → Source → Option Way → Type 0
LeadsIfAny parts numbers source told = MatchOption told (StartsNone parts source) (LeadsFrom parts numbers source)

-- the cap of a chain of this speed
abbrev pub cap_at : Bool → ℕ → ℕ
cap_at one_tier speed = if one_tier then 1 else speed

-- the edge of this start and of where this way ends
abbrev pub edge_to : Bool → Start → Way → Edge
edge_to one_tier start way = record { start = start; target = way.target; cap = cap_at one_tier way.speed }

-- the edge of this start and of where this way ends, with the halves that it joins
abbrev pub joint_of : Bool → Source → Start → Way → Joint
joint_of one_tier source start way = record { edge = edge_to one_tier start way; source_half = half_of source; sink_half = way.sink_half }

-- the edge stands for the chain, which starts and ends at these halves
pub record IsJoint (parts : List Part) (naming : Naming) (chain : Chain) (joint : Joint) : Type 0 where
  pub edge : IsEdgeOf parts naming chain joint.edge
  pub starts_at : joint.source_half ≡ half_of chain.source
  pub ends_at : EndsAtAny parts chain joint.sink_half

-- the edge of the chain that starts here is added, if one does
abbrev pub AddsEdge : List Part → Labels → Source → Start → List Joint → List Joint → Type 0
AddsEdge parts labels source start old new =
    (StartsNone parts source × (new ≡ old))
    ⊎ ((way : Way) × LeadsFrom parts labels.numbers.items source way × (new ≡ old ++ joint_of labels.one_tier source start way ∷ []))

-- the edges of the chains from both halves of a splitter are added, that of the lesser half first
pub record AddsHalves (parts : List Part) (labels : Labels) (s : ℕ) (start : Start) (old new : List Joint) : Type 0 where
  pub part : Part
  pub is_s : HasPart parts s part
  pub mid : List Joint
  pub lesser : AddsEdge parts labels (leaves s part.cell) start old mid
  pub greater : AddsEdge parts labels (leaves s (beside part.dir part.cell)) start mid new

-- these stand for the chains of these sources, in their order, each once
pub record AreEdges {X : Type 0} (parts : List Part) (IsFor : Chain → X → Type 0) (done : Source → Type 0) (chains : List Chain) (edges : List X) : Type 0 where
  pub named : AllZip IsFor chains edges
  pub only : (chain : Chain) → Contains chains chain → IsChain parts chain × done chain.source
  pub all : (chain : Chain) → IsChain parts chain → done chain.source → Contains chains chain
  pub in_order : AllPairs (λ one other. ComesBefore one.source other.source) chains

-- these stand for chains of these sources
abbrev pub HasEdges : {X : Type 0} → List Part → (Chain → X → Type 0) → (Source → Type 0) → List X → Type 0
HasEdges parts IsFor done edges = (chains : List Chain) × AreEdges parts IsFor done chains edges

-- every source is done
abbrev pub AllDone : Source → Type 0
AllDone source = ⊤

-- the network of these numbers with these edges
abbrev pub net_with : Naming → List Edge → Network
net_with naming edges = network_of (length naming.inputs) (length naming.outputs) (length naming.splitters) edges

-- What a layout says of each fact.
use Rattle.std.proofs.Common.{◌≡◌, ◌⊎◌, ℕ, zero, suc, ◌+◌, ◌<◌, List, [], ◌∷◌, length, get_or, Some}
use Rattle.std.specs.List.{Contains, enumerate_from, filter, slice_get}
use Rattle.std.specs.Prelude.{unsigned_abs}
use Rattle.bt_parts.specs.declared.part.Cell.{Cell}
use Rattle.bt_parts.specs.declared.part.Dir.{Dir}
use Rattle.bt_parts.specs.declared.part.Kind.TheVariants as kind
use Rattle.bt_parts.specs.declared.part.Part.{Part}
use Rattle.bt_parts.specs.declared.part.Rect.{Rect}
use Rattle.bt_parts.specs.Cells.{steps, cell_at}
use Rattle.bt_parts.specs.Layouts.{HasPart, IsAt, Pairs}
use Rattle.bt_net.specs.declared.network.Edge.{Edge}
use Rattle.bt_net.specs.declared.network.Demand.{Demand}
use Rattle.bt_net.specs.declared.network.EndKind.{EndKind}
use Rattle.bt_net.specs.declared.network.EndKind.TheVariants.{Inputs, Outputs}
use Rattle.bt_net.specs.declared.network.Start.TheVariants as from
use Rattle.bt_net.specs.declared.network.Target.TheVariants as to
use Rattle.bt_net.specs.Network.{leaves, enters}
use Rattle.bt_model.specs.Chains.{IsSplitter, IsInput, Source}
use Rattle.bt_model.specs.Chains as chains
use Rattle.bt_model.specs.Handing.{FeedsFrom}
use Rattle.bt_model.specs.Shown.{Naming}
use Rattle.bt_facts.specs.declared.fact.Class.{Class}
use Rattle.bt_facts.specs.declared.fact.Class.TheVariants.{Split}
use Rattle.bt_facts.specs.declared.fact.Content.TheVariants.{Empty, Turned}
use Rattle.bt_facts.specs.declared.fact.Fact.{Fact}
use Rattle.bt_facts.specs.declared.fact.Fact.TheVariants as fact
use Rattle.bt_facts.specs.declared.fact.Half.{Half}
use Rattle.bt_facts.specs.declared.fact.Half.TheVariants.{Lesser}
use Rattle.bt_facts.specs.declared.fact.Shape.{Shape}
use Rattle.bt_facts.specs.declared.fact.Shape.TheVariants as shape
use Rattle.bt_demands.specs.Classes.{class_of}
use Rattle.bt_demands.specs.Rows.{way_of}
use Rattle.bt_facts.specs.declared.fact.Line.{Line}
use Rattle.bt_facts.specs.declared.fact.Line.TheVariants as line
use Rattle.bt_model.specs.Laying.{HasEndPart}
use Rattle.bt_rules.specs.Kept.{kind_of}
use Rattle.bt_facts.specs.Spots.{half_at, behind, cells_of}
use Rattle.bt_rules.proofs.Matching.{Matched}

-- the cell of a part's shape
abbrev pub cell_of : Shape → Part → Cell
cell_of shape.Belt part = part.cell
cell_of shape.Entrance part = part.cell
cell_of shape.Exit part = part.cell
cell_of (shape.Half half) part = half_at half part.dir part.cell

-- a part of this shape stands on the cell, turned this way
pub record Stands (parts : List Part) (c : Cell) (of : Shape) (dir : Dir) : Type 0 where
  pub index : ℕ
  pub part : Part
  pub is_part : HasPart parts index part
  pub kind : part.kind ≡ kind_of of
  pub turned : part.dir ≡ dir
  pub cell : c ≡ cell_of of part

-- the cell in this direction is handed something from this one
pub record GoesOn (parts : List Part) (c : Cell) (dir : Dir) : Type 0 where
  pub giver : ℕ
  pub taker : ℕ
  pub feeds : FeedsFrom parts giver c taker
  pub along : feeds.look.giver.part.dir ≡ dir

-- a part with this index bears the number in the list
abbrev pub Bears : List ℕ → ℕ → ℕ → Type 0
Bears list k i = slice_get list k ≡ Some i

-- a splitter with this number
pub record Splits (parts : List Part) (naming : Naming) (s : ℕ) : Type 0 where
  pub index : ℕ
  pub named : Bears naming.splitters s index
  pub part : Part
  pub is_part : HasPart parts index part
  pub kind : part.kind ≡ kind.Splitter

-- a part with this number in the list stands on the cell
pub record NamedAt (parts : List Part) (list : List ℕ) (k : ℕ) (c : Cell) : Type 0 where
  pub index : ℕ
  pub named : Bears list k index
  pub at : IsAt parts index c

-- the last of one link and more
abbrev pub last_link : ℕ → List ℕ → ℕ
last_link i [] = i
last_link i (j ∷ links) = last_link j links

-- the last of the links is on the cell, or without a link the half at which the chain starts
abbrev pub ComesFromCell : List Part → Source → List ℕ → Cell → Type 0
ComesFromCell parts source [] c = (s : ℕ) × (source ≡ chains.leaves s c)
ComesFromCell parts source (i ∷ links) c = IsAt parts (last_link i links) c

-- an underground pair in this direction runs from the cell to the next
pub record Runs (parts : List Part) (c : Cell) (dir : Dir) : Type 0 where
  pub from : ℕ
  pub to : ℕ
  pub pair : Pairs parts from to
  pub along : pair.entrance.dir ≡ dir
  pub so_far : ℕ
  pub before_end : so_far < pair.distance
  pub here : c ≡ steps so_far dir pair.entrance.cell

-- the entrance on the cell has its exit so far ahead
pub record Reaches (parts : List Part) (c : Cell) (k : ℕ) : Type 0 where
  pub from : ℕ
  pub to : ℕ
  pub pair : Pairs parts from to
  pub here : c ≡ pair.entrance.cell
  pub far : pair.distance ≡ k

-- an edge in place of one that isn't there
abbrev pub no_edge : Edge
no_edge = record { start = from.Input 0; target = to.Output 0; cap = 1 }

-- the edge with this number
abbrev pub edge_at : List Edge → ℕ → Edge
edge_at edges e = get_or edges e no_edge

-- the edges into a splitter, with their numbers
abbrev pub edges_into : List Edge → ℕ → List (ℕ × Edge)
edges_into edges s = filter (λ numbered. enters s numbered.1) (enumerate_from 0 edges)

-- the edges from a splitter, with their numbers
abbrev pub edges_from : List Edge → ℕ → List (ℕ × Edge)
edges_from edges s = filter (λ numbered. leaves s numbered.1) (enumerate_from 0 edges)

-- there is a first of the numbered edges, and its number has P
abbrev pub FirstHas : List (ℕ × Edge) → (ℕ → Type 0) → Type 0
FirstHas [] P = ⊥
FirstHas (first ∷ rest) P = P first.0

-- a half of some splitter stands on the cell
abbrev pub HalfThere : List Part → Cell → Type 0
HalfThere parts c = (i : ℕ) × IsSplitter parts i × IsAt parts i c

-- the cell with this number, row by row
abbrev pub cell_numbered : Rect → ℕ → Cell
cell_numbered rect n = get_or (cells_of rect) n (cell_at 0 0)

-- of the first so many cells, row by row, at least so many hold halves
abbrev pub Holding : List Part → Rect → ℕ → ℕ → Type 0
Holding parts rect n zero = Unit {0}
Holding parts rect zero (suc k) = ⊥
Holding parts rect (suc n) (suc k) = Holding parts rect n (suc k) ⊎ (HalfThere parts (cell_numbered rect n) × Holding parts rect n k)

-- the ends of which a row is
abbrev pub line_kind : Line → EndKind
line_kind line.InputsEast = Inputs
line_kind line.InputsSouth = Inputs
line_kind line.OutputsEast = Outputs
line_kind line.OutputsSouth = Outputs

-- the number of ends of this kind that bear names
abbrev pub named_count : Naming → EndKind → ℕ
named_count naming Inputs = length naming.inputs
named_count naming Outputs = length naming.outputs

module _ (parts : List Part) (naming : Naming) (edges : List Edge) (demands : List Demand) (m : Matched parts naming edges) where
  -- the edge leaves the splitter by this half
  abbrev pub LeavesBy : ℕ → ℕ → Half → Type 0
  LeavesBy s e half = (e < length edges) × ((split : Splits parts naming s)
      × ((m.chain_of e).source ≡ chains.leaves split.index (half_at half split.part.dir split.part.cell)))

  -- the edge comes into the splitter by this half
  abbrev pub EntersBy : ℕ → ℕ → Half → Type 0
  EntersBy s e half = (e < length edges) × ((split : Splits parts naming s)
      × (((m.chain_of e).sink ≡ chains.enters split.index)
      × ComesFromCell parts (m.chain_of e).source (m.chain_of e).links (behind split.part.dir (half_at half split.part.dir split.part.cell))))

  -- the part lies on the chain of this edge
  abbrev pub LiesOn : ℕ → ℕ → Type 0
  LiesOn i e = (e < length edges) × Contains (m.chain_of e).links i

  -- the class of what leaves the part: that of a splitter's edges, or that of the edge on whose chain it lies
  abbrev pub HasClass : ℕ → Class → Type 0
  HasClass i k = (IsSplitter parts i × ((s : ℕ) × Bears naming.splitters s i × (k ≡ Split s)))
      ⊎ ((e : ℕ) × LiesOn i e × (k ≡ class_of demands (edge_at edges e)))

  -- what the layout says of a fact
  abbrev pub Says : Rect → Fact → Type 0
  Says rect (fact.Kind c Empty) = (i : ℕ) → IsAt parts i c → ⊥
  Says rect (fact.Kind c (Turned of dir)) = Stands parts c of dir
  Says rect (fact.Carries c k) = (i : ℕ) × IsAt parts i c × HasClass i k
  Says rect (fact.HalfOn c) = HalfThere parts c
  Says rect (fact.BeltOn c) = (dir : Dir) × Stands parts c shape.Belt dir
  Says rect (fact.Begins c) = (i : ℕ) × IsInput parts i × IsAt parts i c
  Says rect (fact.Starts c i) = NamedAt parts naming.inputs i c
  Says rect (fact.Stops c o) = NamedAt parts naming.outputs o c
  Says rect (fact.Lies c l) = (k : ℕ) → k < named_count naming (line_kind l) → HasEndPart parts (line_kind l) (steps k (way_of l) c)
  Says rect (fact.Pair c dir k) = Stands parts c shape.Entrance dir × Reaches parts c k
  Says rect (fact.Tunnel c dir) = Runs parts c dir
  Says rect (fact.Goes c dir) = GoesOn parts c dir
  Says rect (fact.At s c dir) = (split : Splits parts naming s) × ((c ≡ split.part.cell) × (split.part.dir ≡ dir))
  Says rect (fact.Column s x) = (split : Splits parts naming s) × (unsigned_abs split.part.cell.x ≡ x)
  Says rect (fact.Row s y) = (split : Splits parts naming s) × (unsigned_abs split.part.cell.y ≡ y)
  Says rect (fact.Points s dir) = (split : Splits parts naming s) × (split.part.dir ≡ dir)
  Says rect (fact.EntersLesser s) = FirstHas (edges_into edges s) (λ e. EntersBy s e Lesser)
  Says rect (fact.LeavesLesser s) = FirstHas (edges_from edges s) (λ e. LeavesBy s e Lesser)
  Says rect (fact.Held spare half) = Holding parts rect (suc (spare + half)) (suc half)

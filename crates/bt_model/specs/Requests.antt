-- What a layout is asked for: a network in a rectangle, whose ends may have to stand on cells, at sides or in rows, and
-- blocked cells.
use Rattle.std.specs.Prelude.{◌≡◌, ◌≢◌, ℕ, ◌≤◌, Bool, true, false, List, length, All, AllPairs}
use Rattle.bt_parts.specs.declared.part.Cell.{Cell}
use Rattle.bt_parts.specs.declared.part.Rect.{Rect}
use Rattle.bt_parts.specs.declared.part.Tier.{Tier}
use Rattle.bt_parts.specs.Cells.{IsInside, cell_at}
use Rattle.bt_net.specs.declared.network.Block.{Block}
use Rattle.bt_net.specs.declared.network.Demand.{Demand}
use Rattle.bt_net.specs.declared.network.Demand.TheVariants as demand
use Rattle.bt_net.specs.declared.network.End.{End}
use Rattle.bt_net.specs.declared.network.End.TheVariants.{Input, Output}
use Rattle.bt_net.specs.declared.network.EndKind.{EndKind}
use Rattle.bt_net.specs.declared.network.EndKind.TheVariants as kind
use Rattle.bt_net.specs.declared.network.Ends.{Ends}
use Rattle.bt_net.specs.declared.network.Ends.TheVariants.{One, Inputs, Outputs}
use Rattle.bt_net.specs.declared.network.Pin.{Pin}
use Rattle.bt_net.specs.Network.{Network, IsNetwork}
pub use Rattle.bt_net.specs.Network.{HasEnd}
pub use Rattle.bt_net.specs.PinText.{HasEnds}
use Rattle.bt_model.specs.declared.request.TheConstants.{MOST_ACROSS, MOST_EDGES, MOST_SPLITTERS}

-- the network to be shown, the rectangle in which the parts are to lie, their tier, where ends are to stand, and the
-- cells on which no part is to stand
pub record LayoutRequest : Type 0 where
  pub net : Network
  pub rect : Rect
  pub tier : Tier
  pub demands : List Demand
  pub blocks : List Block

-- the request for these
abbrev pub request_of : Network → Rect → Tier → List Demand → List Block → LayoutRequest
request_of net rect tier demands blocks = record { net = net; rect = rect; tier = tier; demands = demands; blocks = blocks }

-- the cell that a pin names
abbrev pub pinned : Pin → Cell
pinned pin = cell_at pin.x pin.y

-- the cell that a block names
abbrev pub blocked : Block → Cell
blocked block = cell_at block.x block.y

-- the ends of this kind
abbrev pub all_of : EndKind → Ends
all_of kind.Inputs = Inputs
all_of kind.Outputs = Outputs

-- the ends of which a line says where they are to stand, and the number of that line
abbrev pub ends_of : Demand → Ends
ends_of (demand.Pin pin) = One pin.end
ends_of (demand.Side side) = side.ends
ends_of (demand.Row row) = all_of row.kind

abbrev pub line_of : Demand → ℕ
line_of (demand.Pin pin) = pin.line
line_of (demand.Side side) = side.line
line_of (demand.Row row) = row.line

-- the line says that ends stand in a row
abbrev pub is_row : Demand → Bool
is_row (demand.Pin pin) = false
is_row (demand.Side side) = false
is_row (demand.Row row) = true

-- the end is one of those that are named
abbrev pub Names : Ends → End → Type 0
Names (One one) end = end ≡ one
Names Inputs (Input k) = Unit {0}
Names Inputs (Output k) = ⊥
Names Outputs (Input k) = ⊥
Names Outputs (Output k) = Unit {0}

-- some end is named by both
abbrev pub ShareEnd : Ends → Ends → Type 0
ShareEnd one other = (end : End) × Names one end × Names other end

-- both lines name some end, and both say that ends stand in a row, or neither does
abbrev pub NameOneEnd : Demand → Demand → Type 0
NameOneEnd one other = (is_row one ≡ is_row other) × ShareEnd (ends_of one) (ends_of other)

-- it names a cell, which is this one
abbrev pub IsPinnedTo : Cell → Demand → Type 0
IsPinnedTo cell (demand.Pin pin) = cell ≡ pinned pin
IsPinnedTo cell (demand.Side side) = ⊥
IsPinnedTo cell (demand.Row row) = ⊥

-- a cell that it names lies in the rectangle
abbrev pub IsPinnedInside : Rect → Demand → Type 0
IsPinnedInside rect (demand.Pin pin) = IsInside rect (pinned pin)
IsPinnedInside rect (demand.Side side) = Unit {0}
IsPinnedInside rect (demand.Row row) = Unit {0}

-- from 1 to `MOST_ACROSS` cells each way
pub record IsGrid (rect : Rect) : Type 0 where
  pub some_width : 1 ≤ rect.width
  pub few_across : rect.width ≤ MOST_ACROSS
  pub some_height : 1 ≤ rect.height
  pub few_down : rect.height ≤ MOST_ACROSS

-- a request: a network of at most `MOST_EDGES` edges and `MOST_SPLITTERS` splitters, with caps of 1; pins and sides of
-- its ends, of each end at most one; for ends of each kind at most one row; pins on cells of the rectangle; and blocks
-- of cells of the rectangle, at most one of each and none of a pinned cell
pub record IsRequest (request : LayoutRequest) : Type 0 where
  pub net : IsNetwork request.net
  pub grid : IsGrid request.rect
  pub few_edges : length request.net.edges ≤ MOST_EDGES
  pub few_splitters : request.net.splitters ≤ MOST_SPLITTERS
  pub caps : All (λ edge. edge.cap ≡ 1) request.net.edges
  pub ends : All (λ d. HasEnds request.net (ends_of d)) request.demands
  pub pins_inside : All (IsPinnedInside request.rect) request.demands
  pub demands_apart : AllPairs (λ one other. NameOneEnd one other → ⊥) request.demands
  pub blocks_inside : All (λ block. IsInside request.rect (blocked block)) request.blocks
  pub blocks_apart : AllPairs (λ one other. blocked one ≢ blocked other) request.blocks
  pub blocks_unpinned : All (λ block. All (λ d. IsPinnedTo (blocked block) d → ⊥) request.demands) request.blocks

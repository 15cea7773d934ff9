-- A request that is asked of grids.
use Rattle.std.specs.Prelude.{◌≡◌, [], All}
use Rattle.bt_parts.specs.declared.part.Rect.{Rect}
use Rattle.bt_net.specs.declared.network.Demand.{Demand}
use Rattle.bt_net.specs.declared.network.Demand.TheVariants as demand
use Rattle.bt_model.specs.Requests.{LayoutRequest, request_of}

-- the line names no cell
abbrev pub NamesNoCell : Demand → Type 0
NamesNoCell (demand.Pin pin) = ⊥
NamesNoCell (demand.Side side) = Unit {0}
NamesNoCell (demand.Row row) = Unit {0}

-- a request that names no cells, which so may be asked of any grid: its sides are those of the grid
pub record NamesNoCells (r : LayoutRequest) : Type 0 where
  pub demands : All NamesNoCell r.demands
  pub blocks : r.blocks ≡ []

-- the same request on another grid
abbrev pub request_on : LayoutRequest → Rect → LayoutRequest
request_on r grid = request_of r.net grid r.tier r.demands r.blocks

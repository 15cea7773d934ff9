-- Pins and blocks so near that the cells beside theirs can be told.
use Rattle.std.specs.Prelude.{◌≤◌}
use Rattle.bt_net.specs.declared.network.Block.{Block}
use Rattle.bt_net.specs.declared.network.Demand.{Demand}
use Rattle.bt_net.specs.declared.network.Demand.TheVariants as demand
use Rattle.bt_net.specs.declared.network.Pin.{Pin}
use Rattle.bt_parts.specs.declared.part.TheConstants.{MOST_COORDINATE}

-- the pin's coordinates are small
abbrev pub IsPinnedNear : Pin → Type 0
IsPinnedNear pin = (pin.x ≤ MOST_COORDINATE) × (pin.y ≤ MOST_COORDINATE)

-- so are those that a line names
abbrev pub IsDemandedNear : Demand → Type 0
IsDemandedNear (demand.Pin pin) = IsPinnedNear pin
IsDemandedNear (demand.Side side) = Unit {0}
IsDemandedNear (demand.Row row) = Unit {0}

-- the block's coordinates are small
abbrev pub IsBlockedNear : Block → Type 0
IsBlockedNear block = (block.x ≤ MOST_COORDINATE) × (block.y ≤ MOST_COORDINATE)

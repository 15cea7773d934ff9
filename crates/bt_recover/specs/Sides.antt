-- The sides of a layout at which its ends stand.
use Rattle.std.specs.Prelude.{◌≡◌, ℕ, ◌+◌, ◌<ℤ◌, ◌⊎◌, List, [], ◌∷◌, ◌++◌, All, Result, Ok, Err}
use Rattle.bt_parts.specs.declared.part.Cell.{Cell}
use Rattle.bt_parts.specs.declared.part.Dir.{Dir}
use Rattle.bt_parts.specs.declared.part.Dir.TheVariants.{North, East, South, West}
use Rattle.bt_parts.specs.declared.part.Part.{Part}
use Rattle.bt_parts.specs.Cells.{Covers}
use Rattle.bt_parts.specs.Layouts.{HasPart}
use Rattle.bt_net.specs.declared.network.Demand.{Demand}
use Rattle.bt_net.specs.declared.network.Demand.TheVariants as demand
use Rattle.bt_net.specs.declared.network.End.{End}
use Rattle.bt_net.specs.declared.network.End.TheVariants.{Input, Output}
use Rattle.bt_net.specs.declared.network.Ends.TheVariants.{One}
use Rattle.bt_net.specs.Network.{Network}
use Rattle.bt_model.specs.Laying.{way_across}
use Rattle.bt_model.specs.Shown.{Naming}
use Rattle.bt_recover.specs.declared.fault.RecoverFault.{RecoverFault}
use Rattle.bt_recover.specs.declared.sides.TheConstants.{NO_LINE}
use Rattle.bt_recover.specs.Recovered.{IsRecovered}

-- the one cell lies farther in this direction than the other
abbrev pub IsFarther : Dir → Cell → Cell → Type 0
IsFarther North cell other = cell.y <ℤ other.y
IsFarther East cell other = other.x <ℤ cell.x
IsFarther South cell other = other.y <ℤ cell.y
IsFarther West cell other = cell.x <ℤ other.x

-- the part covers a cell that lies farther in this direction
abbrev pub ReachesFarther : Part → Dir → Cell → Type 0
ReachesFarther part dir cell = (c : Cell) × Covers part c × IsFarther dir c cell

-- the cell is at the side that lies in this direction of the least rectangle that holds the parts: none of their cells
-- lies farther
abbrev pub IsAtSideOf : List Part → Dir → Cell → Type 0
IsAtSideOf parts dir cell = All (λ part. ReachesFarther part dir cell → ⊥) parts

-- the part of this end stands at this side of the parts, and points in across it or out across it
abbrev pub LooksAcross : List Part → End → Part → Dir → Type 0
LooksAcross parts end part dir = (part.dir ≡ way_across end dir) × IsAtSideOf parts dir part.cell

-- that the end is to stand at this side, which no line of a text says
abbrev pub stay : End → Dir → Demand
stay end dir = demand.Side (record { ends = One end; dir = dir; line = NO_LINE })

-- what there is of one end: that it is to stand at the side across which its part looks, and nothing where it looks
-- across none
abbrev pub IsStayOf : List Part → End → Part → List Demand → Type 0
IsStayOf parts end part stays = ((dir : Dir) × LooksAcross parts end part dir × (stays ≡ stay end dir ∷ []))
    ⊎ (((dir : Dir) → LooksAcross parts end part dir → ⊥) × (stays ≡ []))

-- what there is of ends with the numbers from this one on, whose parts have these indices, one behind the other
abbrev pub AreStaysOf : List Part → (ℕ → End) → ℕ → List ℕ → List Demand → Type 0
AreStaysOf parts end_of number [] stays = stays ≡ []
AreStaysOf parts end_of number (i ∷ more) stays = (part : Part) × (first rest : List Demand) × HasPart parts i part
    × IsStayOf parts (end_of number) part first × AreStaysOf parts end_of (number + 1) more rest × (stays ≡ first ++ rest)

-- what there is of all ends: of the inputs, and behind them of the outputs
abbrev pub AreStays : List Part → Naming → List Demand → Type 0
AreStays parts naming stays = (ins outs : List Demand) × AreStaysOf parts Input 0 naming.inputs ins × AreStaysOf parts Output 0 naming.outputs outs
    × (stays ≡ ins ++ outs)

-- the right answer to a layout in which no two parts share a cell: that its ends are to stand at the sides across which
-- they look, by the numbers of its own numbering; or the first fault of the layout
abbrev pub AreEndSides : List Part → Result (List Demand) RecoverFault → Type 0
AreEndSides parts (Ok stays) = (found : Network × Naming) × IsRecovered parts (Ok found) × AreStays parts found.1 stays
AreEndSides parts (Err fault) = IsRecovered parts (Err fault)

-- The layouts that a request is asking for.
use Rattle.std.specs.Prelude.{◌≡◌, ◌⊎◌, ℕ, ◌<◌, List, slice_get, Some, All, Contains, IfSome}
use Rattle.bt_parts.specs.declared.part.Cell.{Cell}
use Rattle.bt_parts.specs.declared.hand.Priority.{Priority}
use Rattle.bt_parts.specs.declared.part.Dir.{Dir}
use Rattle.bt_parts.specs.declared.part.Dir.TheVariants.{East, South}
use Rattle.bt_parts.specs.declared.part.Part.{Part}
use Rattle.bt_parts.specs.declared.part.Rect.{Rect}
use Rattle.bt_parts.specs.Cells.{step, steps, opposite, IsInside}
use Rattle.bt_parts.specs.Layouts.{HasPart, IsAt}
use Rattle.bt_net.specs.declared.network.Block.{Block}
use Rattle.bt_net.specs.declared.network.End.{End}
use Rattle.bt_net.specs.declared.network.End.TheVariants.{Input, Output}
use Rattle.bt_net.specs.declared.network.Demand.{Demand}
use Rattle.bt_net.specs.declared.network.Demand.TheVariants as demand
use Rattle.bt_net.specs.declared.network.EndKind.{EndKind}
use Rattle.bt_net.specs.declared.network.EndKind.TheVariants.{Inputs, Outputs}
use Rattle.bt_net.specs.declared.network.Pin.{Pin}
use Rattle.bt_net.specs.Network.{Network}
use Rattle.bt_model.specs.Chains.{IsInput, IsOutput}
use Rattle.bt_model.specs.Requests.{LayoutRequest, HasEnd, Names, pinned, blocked}
use Rattle.bt_model.specs.Shown.{Naming, Shows}
use Rattle.bt_model.specs.Preferring.{ShowsPreferring}

-- the parts lie in the request's rectangle, on none of its blocked cells, and have its tier; behind the first part of
-- an input, and in front of the last part of an output, the rectangle ends
pub record Fits (parts : List Part) (request : LayoutRequest) : Type 0 where
  pub inside : (i : ℕ) (cell : Cell) → IsAt parts i cell → IsInside request.rect cell
  pub unblocked : (i : ℕ) (block : Block) → Contains request.blocks block → IsAt parts i (blocked block) → ⊥
  pub one_tier : All (λ part. part.tier ≡ request.tier) parts
  pub inputs : (i : ℕ) (part : Part) → IsInput parts i → HasPart parts i part
      → IsInside request.rect (step (opposite part.dir) part.cell) → ⊥
  pub outputs : (i : ℕ) (part : Part) → IsOutput parts i → HasPart parts i part
      → IsInside request.rect (step part.dir part.cell) → ⊥

-- the part with this index bears the name of this end: it is the first part of that input, or the last part of that
-- output
abbrev pub IsNamed : Naming → End → ℕ → Type 0
IsNamed naming (Input k) i = slice_get naming.inputs k ≡ Some i
IsNamed naming (Output k) i = slice_get naming.outputs k ≡ Some i

-- the part that bears the name of the pinned end stands on the pinned cell, and points in the pinned direction where
-- there is one
pub record KeepsPin (parts : List Part) (naming : Naming) (pin : Pin) : Type 0 where
  pub index : ℕ
  pub named : IsNamed naming pin.end index
  pub part : Part
  pub is_part : HasPart parts index part
  pub stands : part.cell ≡ pinned pin
  pub points : IfSome pin.dir (λ dir. part.dir ≡ dir)

-- the cell is of the row or the column of cells at the side of the rectangle that lies in this direction
abbrev pub IsAtSide : Rect → Dir → Cell → Type 0
IsAtSide rect dir cell = IsInside rect cell × (IsInside rect (step dir cell) → ⊥)

-- the direction of the part with which an end stands at this side: an input comes in across it, and an output leaves
-- across it
abbrev pub way_across : End → Dir → Dir
way_across (Input k) dir = opposite dir
way_across (Output k) dir = dir

-- the part that bears the name of this end stands at this side, and points in across it or out across it
pub record StandsAtSide (parts : List Part) (rect : Rect) (naming : Naming) (dir : Dir) (end : End) : Type 0 where
  pub index : ℕ
  pub named : IsNamed naming end index
  pub part : Part
  pub is_part : HasPart parts index part
  pub stands : IsAtSide rect dir part.cell
  pub points : part.dir ≡ way_across end dir

-- the number of the network's ends of this kind
abbrev pub end_count : Network → EndKind → ℕ
end_count net Inputs = net.inputs
end_count net Outputs = net.outputs

-- the part with this index is the first of an input, or the last of an output
abbrev pub IsEndPart : List Part → EndKind → ℕ → Type 0
IsEndPart parts Inputs i = IsInput parts i
IsEndPart parts Outputs i = IsOutput parts i

-- on the cell stands the first part of an input, or the last part of an output
abbrev pub HasEndPart : List Part → EndKind → Cell → Type 0
HasEndPart parts kind cell = (i : ℕ) × IsEndPart parts kind i × IsAt parts i cell

-- on as many consecutive cells of one row or one column as there are, so many of these parts stand: all of them, since
-- each stands on one cell
pub record StandInRow (parts : List Part) (kind : EndKind) (count : ℕ) : Type 0 where
  pub first : Cell
  pub along : Dir
  pub is_along : (along ≡ East) ⊎ (along ≡ South)
  pub each : (k : ℕ) → k < count → HasEndPart parts kind (steps k along first)

-- the pinned end stands on its cell, or each end of the network that is named stands at its side, or all ends of a kind
-- stand in a row
abbrev pub KeepsDemand : List Part → LayoutRequest → Naming → Demand → Type 0
KeepsDemand parts request naming (demand.Pin pin) = KeepsPin parts naming pin
KeepsDemand parts request naming (demand.Side side) =
    (end : End) → HasEnd request.net end → Names side.ends end → StandsAtSide parts request.rect naming side.dir end
KeepsDemand parts request naming (demand.Row row) = StandInRow parts row.kind (end_count request.net row.kind)

-- the layout fits the request, and shows its network under a naming by which every pin, side and row is kept; nothing
-- is said of what its splitters prefer
pub record Lays (parts : List Part) (request : LayoutRequest) : Type 0 where
  pub fits : Fits parts request
  pub naming : Naming
  pub shows : Shows parts request.net naming
  pub demands : All (KeepsDemand parts request naming) request.demands

-- the layout with these priorities lays the request with what its splitters prefer: it fits, and some one-to-one map of
-- its chains onto the network's edges keeps named start, named target and cap, takes preferred chains to preferred
-- edges, and no others; every pin, side and row is kept
pub record LaysPreferring (parts : List Part) (priorities : List Priority) (request : LayoutRequest) : Type 0 where
  pub fits : Fits parts request
  pub naming : Naming
  pub shows : ShowsPreferring parts priorities request.net naming
  pub demands : All (KeepsDemand parts request naming) request.demands

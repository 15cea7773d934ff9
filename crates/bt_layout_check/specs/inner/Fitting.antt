-- How parts lie in a rectangle.
use Rattle.std.specs.Prelude.{◌≡◌, List, ℕ}
use Rattle.bt_parts.specs.declared.part.Cell.{Cell}
use Rattle.bt_parts.specs.declared.part.Part.{Part}
use Rattle.bt_parts.specs.declared.part.Rect.{Rect}
use Rattle.bt_parts.specs.declared.part.Tier.{Tier}
use Rattle.bt_parts.specs.Cells.{step, opposite, Covers, IsInside}
use Rattle.bt_parts.specs.Layouts.{HasPart, IsAt}
use Rattle.bt_net.specs.declared.network.Block.{Block}
use Rattle.bt_model.specs.Requests.{blocked}

-- each cell of the part lies in the rectangle
abbrev pub LiesInside : Rect → Part → Type 0
LiesInside rect part = (cell : Cell) → Covers part cell → IsInside rect cell

-- the part lies in the rectangle and has the tier
abbrev pub SuitsAlone : Rect → Tier → Part → Type 0
SuitsAlone rect tier part = LiesInside rect part × (part.tier ≡ tier)

-- no part stands on the cell of the block
abbrev pub IsFree : List Part → Block → Type 0
IsFree parts block = (i : ℕ) → IsAt parts i (blocked block) → ⊥

-- behind the part with this index the rectangle ends
abbrev pub IsFirstInside : Rect → List Part → ℕ → Type 0
IsFirstInside rect parts i = (part : Part) → HasPart parts i part → IsInside rect (step (opposite part.dir) part.cell) → ⊥

-- in front of the part with this index the rectangle ends
abbrev pub IsLastInside : Rect → List Part → ℕ → Type 0
IsLastInside rect parts i = (part : Part) → HasPart parts i part → IsInside rect (step part.dir part.cell) → ⊥

-- The ends of a layout in the order of their cells, and parts that stand side by side.
use Rattle.std.specs.Prelude.{◌≡◌, ℕ, ◌<◌, ◌-◌, List, length, get_or, AllPairs}
use Rattle.bt_parts.specs.declared.part.Dir.{Dir}
use Rattle.bt_parts.specs.declared.part.Part.{Part}
use Rattle.bt_parts.specs.Cells.{step}
use Rattle.bt_parts.specs.Layouts.{HasPart}
use Rattle.bt_net.specs.declared.network.EndKind.{EndKind}
use Rattle.bt_net.specs.declared.network.EndKind.TheVariants.{Inputs, Outputs}
use Rattle.bt_model.specs.Chains.{IsInput, IsOutput}
use Rattle.bt_model.specs.Shown.{IsPlacedBefore, ListsEach, Naming}

-- the second part stands on the next cell in the direction from the first one
abbrev pub IsNextTo : List Part → Dir → ℕ → ℕ → Type 0
IsNextTo parts dir i j = (one other : Part) → HasPart parts i one → HasPart parts j other → other.cell ≡ step dir one.cell

-- each of these parts but the first stands on the next cell in the direction from the one before it
abbrev pub AreInLine : List Part → Dir → List ℕ → Type 0
AreInLine parts dir indices = (k d : ℕ) → 0 < k → k < length indices → IsNextTo parts dir (get_or indices (k - 1) d) (get_or indices k d)

-- the number of ends of this kind that are named
abbrev pub count_of : Naming → EndKind → ℕ
count_of naming Inputs = length naming.inputs
count_of naming Outputs = length naming.outputs

-- the names have each input and each output of the layout once, in the order of their cells
pub record AreEnds (parts : List Part) (naming : Naming) : Type 0 where
  pub inputs : ListsEach (IsInput parts) naming.inputs
  pub outputs : ListsEach (IsOutput parts) naming.outputs
  pub inputs_ascend : AllPairs (IsPlacedBefore parts) naming.inputs
  pub outputs_ascend : AllPairs (IsPlacedBefore parts) naming.outputs

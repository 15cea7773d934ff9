-- The lines of a network's text that say where its ends are to stand, and where no part is.
use Rattle.std.specs.Prelude.{◌≡◌, ℕ, ◌+◌, ◌<◌, List, [], ◌∷◌, ◌++◌, Option, Some, None, ⊤, codes, decimal}
use Rattle.bt_parts.specs.declared.part.Dir.{Dir}
use Rattle.bt_parts.specs.declared.part.Dir.TheVariants.{North, East, South, West}
use Rattle.bt_net.specs.declared.network.Admitted.{Admitted}
use Rattle.bt_net.specs.declared.network.Admitted.TheVariants.{Nothing, Priorities, Sides, All}
use Rattle.bt_net.specs.declared.network.Block.{Block}
use Rattle.bt_net.specs.declared.network.Demand.{Demand}
use Rattle.bt_net.specs.declared.network.Demand.TheVariants as demand
use Rattle.bt_net.specs.declared.network.End.{End}
use Rattle.bt_net.specs.declared.network.End.TheVariants as end
use Rattle.bt_net.specs.declared.network.EndKind.{EndKind}
use Rattle.bt_net.specs.declared.network.EndKind.TheVariants as kind
use Rattle.bt_net.specs.declared.network.Ends.{Ends}
use Rattle.bt_net.specs.declared.network.Ends.TheVariants.{One, Inputs, Outputs}
use Rattle.bt_net.specs.declared.network.Pin.{Pin}
use Rattle.bt_net.specs.declared.network.Row.{Row}
use Rattle.bt_net.specs.declared.network.Side.{Side}
use Rattle.bt_net.specs.declared.network.TheConstants.{NO_COORDINATE}
use Rattle.bt_net.specs.Network.{Network, HasEnd}

-- `i` and the number of an input, or `o` and that of an output
abbrev pub end_text : End → List ℕ
end_text (end.Input i) = codes "i" ++ decimal i
end_text (end.Output o) = codes "o" ++ decimal o

-- the word for a direction
abbrev pub dir_text : Dir → List ℕ
dir_text North = codes "north"
dir_text East = codes "east"
dir_text South = codes "south"
dir_text West = codes "west"

-- a space and the direction of a pin that names one
abbrev pub way_text : Option Dir → List ℕ
way_text None = []
way_text (Some dir) = codes " " ++ dir_text dir

-- `pin`, the end, the two numbers of the cell, and the direction where there is one
abbrev pub pin_text : Pin → List ℕ
pin_text pin = codes "pin " ++ end_text pin.end ++ codes " " ++ decimal pin.x ++ codes " " ++ decimal pin.y ++ way_text pin.dir

-- an end, or the word for each of a kind
abbrev pub ends_text : Ends → List ℕ
ends_text (One end) = end_text end
ends_text Inputs = codes "inputs"
ends_text Outputs = codes "outputs"

-- `side`, the ends, and the direction in which the side lies
abbrev pub side_text : Side → List ℕ
side_text side = codes "side " ++ ends_text side.ends ++ codes " " ++ dir_text side.dir

-- the word for inputs, or for outputs
abbrev pub kind_text : EndKind → List ℕ
kind_text kind.Inputs = codes "inputs"
kind_text kind.Outputs = codes "outputs"

-- `row` and the word for the ends that stand in it
abbrev pub row_text : Row → List ℕ
row_text row = codes "row " ++ kind_text row.kind

-- `block` and the two numbers of the cell
abbrev pub block_text : Block → List ℕ
block_text block = codes "block " ++ decimal block.x ++ codes " " ++ decimal block.y

-- the line with this number is that of a pin, which names an end of the network, and numbers of at most nine digits
pub record IsPinLine (n : Network) (number : ℕ) (bytes : List ℕ) (pin : Pin) : Type 0 where
  pub text : bytes ≡ pin_text pin
  pub has_end : HasEnd n pin.end
  pub short_x : pin.x < NO_COORDINATE
  pub short_y : pin.y < NO_COORDINATE
  pub line : pin.line ≡ number

-- the line with this number is that of a block, which names numbers of at most nine digits
pub record IsBlockLine (number : ℕ) (bytes : List ℕ) (block : Block) : Type 0 where
  pub text : bytes ≡ block_text block
  pub short_x : block.x < NO_COORDINATE
  pub short_y : block.y < NO_COORDINATE
  pub line : block.line ≡ number

-- the network has the ends that are named
abbrev pub HasEnds : Network → Ends → Type 0
HasEnds n (One end) = HasEnd n end
HasEnds n Inputs = Unit {0}
HasEnds n Outputs = Unit {0}

-- the line with this number is that of a side, which names ends of the network
pub record IsSideLine (n : Network) (number : ℕ) (bytes : List ℕ) (side : Side) : Type 0 where
  pub text : bytes ≡ side_text side
  pub has_ends : HasEnds n side.ends
  pub line : side.line ≡ number

-- the line with this number is that of a row
pub record IsRowLine (number : ℕ) (bytes : List ℕ) (row : Row) : Type 0 where
  pub text : bytes ≡ row_text row
  pub line : row.line ≡ number

-- the line with this number is that of a pin, of a side or of a row
abbrev pub IsDemandLine : Network → ℕ → List ℕ → Demand → Type 0
IsDemandLine n number bytes (demand.Pin pin) = IsPinLine n number bytes pin
IsDemandLine n number bytes (demand.Side side) = IsSideLine n number bytes side
IsDemandLine n number bytes (demand.Row row) = IsRowLine number bytes row

-- such a line may stand
abbrev pub Admits : Admitted → Demand → Type 0
Admits Nothing d = ⊥
Admits Priorities d = ⊥
Admits Sides (demand.Pin pin) = ⊥
Admits Sides (demand.Side side) = Unit {0}
Admits Sides (demand.Row row) = Unit {0}
Admits All d = Unit {0}

-- the line with this number is that of a pin, of a side or of a row, and may stand
abbrev pub IsDemandHere : Admitted → Network → ℕ → List ℕ → Demand → Type 0
IsDemandHere may n number bytes d = Admits may d × IsDemandLine n number bytes d

-- the line with this number is that of a block, and may stand
abbrev pub IsBlockHere : Admitted → ℕ → List ℕ → Block → Type 0
IsBlockHere may number bytes block = (may ≡ All) × IsBlockLine number bytes block

-- the lines, of which the first has this number, are those of these, one by one
abbrev pub AreLinesFrom : {X : Type 0} → (ℕ → List ℕ → X → Type 0) → ℕ → List (List ℕ) → List X → Type 0
AreLinesFrom IsLine number [] [] = ⊤
AreLinesFrom IsLine number [] (x ∷ xs) = ⊥
AreLinesFrom IsLine number (bytes ∷ lines) [] = ⊥
AreLinesFrom IsLine number (bytes ∷ lines) (x ∷ xs) = IsLine number bytes x × AreLinesFrom IsLine (number + 1) lines xs

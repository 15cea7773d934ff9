-- What is read of an entity before its cell is.
use Rattle.std.specs.Prelude.{◌≡◌, ◌<◌, ℕ, ℤ, List, Option, Some, None, Result, Ok, Err, [], ◌∷◌, MatchOption, codes}
use Rattle.bt_json.specs.Json.{Json, Number}
use Rattle.bt_parts.specs.declared.hand.Priority.{Priority}
use Rattle.bt_parts.specs.declared.part.Cell.{Cell}
use Rattle.bt_parts.specs.declared.part.Part.{Part}
use Rattle.bt_parts.specs.declared.part.Tier.{Tier}
use Rattle.bt_entities.specs.declared.fault.EntityFault.{EntityFault}
use Rattle.bt_entities.specs.declared.fault.Member.{Member}
use Rattle.bt_entities.specs.declared.fault.Member.TheVariants.{InputPriority, OutputPriority}
use Rattle.bt_entities.specs.declared.name.EntityFamily.{EntityFamily}
use Rattle.bt_entities.specs.declared.piece.Piece.{Piece}
use Rattle.bt_entities.specs.declared.piece.Reading.{Reading}
use Rattle.bt_entities.specs.declared.piece.Reading.TheVariants.{Layouts, Designs}
use Rattle.bt_entities.specs.declared.shift.Shift.{Shift}
use Rattle.bt_entities.specs.Members.{HasText}
use Rattle.bt_entities.specs.Names.{name_of}
use Rattle.bt_entities.specs.Blueprints.{AreParts, ArePriorities}
use Rattle.bt_entities.specs.Entities.{HasKind, HasTier, HasDirection, HasPosition, IsHalves, HasPriority, SetsShift, IsFirst, IsEntity, special_in_designs, special_in_layouts}
use Rattle.bt_entities.specs.Places.{width_of, height_of, IsMiddle}
use Rattle.bt_entities.specs.Refusals.{IsWrong, IsLowest, IsFirstOf, IsRefused}

-- the number's halves, where it has some
abbrev pub AreHalves : Number → Option ℤ → Type 0
AreHalves n halves = MatchOption halves ((z : ℤ) → ¬ IsHalves n z) (IsHalves n)

-- the members that may not be special where an entity is read so
abbrev pub special_of : Reading → List Member
special_of Layouts = special_in_layouts
special_of Designs = special_in_designs

-- the member is the first of the two priorities that is wrong, in every version
abbrev pub IsWrongPriority : Json → Member → Type 0
IsWrongPriority v member = (major : ℕ) → IsFirst (IsWrong major v) (InputPriority ∷ OutputPriority ∷ []) member

-- the entity is such a piece
pub record IsPiece (major : ℕ) (v : Json) (piece : Piece) : Type 0 where
  pub has_kind : HasKind v piece.kind
  pub has_tier : HasTier v piece.tier
  pub has_dir : HasDirection major v piece.dir
  pub x : Number
  pub y : Number
  pub has_position : HasPosition v x y
  pub halves_x : AreHalves x piece.x
  pub halves_y : AreHalves y piece.y
  pub has_priority : HasPriority v piece.priority

-- the piece has this cell on the shifted grid
pub record IsOn (piece : Piece) (shift : Shift) (cell : Cell) : Type 0 where
  pub twice_x : ℤ
  pub has_x : piece.x ≡ Some twice_x
  pub middle_x : IsMiddle twice_x (width_of piece.kind piece.dir) shift.x cell.x
  pub twice_y : ℤ
  pub has_y : piece.y ≡ Some twice_y
  pub middle_y : IsMiddle twice_y (height_of piece.kind piece.dir) shift.y cell.y

-- the piece stands on the grid with this shift
pub record HasShift (piece : Piece) (shift : Shift) : Type 0 where
  pub small_x : shift.x < 2
  pub small_y : shift.y < 2
  pub cell : Cell
  pub on : IsOn piece shift cell

-- the shift is that of entity 0, and is missing at entity 0 alone
abbrev pub IsFirstShift : ℕ → Json → Json → Option Shift → Type 0
IsFirstShift major first v None = v ≡ first
IsFirstShift major first v (Some shift) = SetsShift major first shift

-- the family and the tier of the entity's name, or its lowest fault, whatever the rest of the blueprint is
abbrev pub IsNameRead : ℕ → Json → Result (EntityFamily × Tier) EntityFault → Type 0
IsNameRead i v (Ok named) = HasText v (codes "name") (name_of named.0 named.1)
IsNameRead i v (Err fault) = (members : List Member) (major : ℕ) (first : Json) → IsLowest members major first i v fault

-- the entity is this piece, or has this lowest fault, whatever entity 0 is
abbrev pub IsPieceRead : ℕ → ℕ → Json → Result Piece EntityFault → Type 0
IsPieceRead major i v (Ok piece) = IsPiece major v piece
IsPieceRead major i v (Err fault) = (members : List Member) (first : Json) → IsLowest members major first i v fault

-- the entity stands for this part and has this priority, where entity 0 sets this shift, or has this lowest fault
abbrev pub IsEntityRead : List Member → ℕ → Json → ℕ → Json → Result (Shift × Part × Priority) EntityFault → Type 0
IsEntityRead members major first i v (Ok read) = SetsShift major first read.0 × IsEntity members major first v read.1 × HasPriority v read.2
IsEntityRead members major first i v (Err fault) = IsLowest members major first i v fault

-- the entities stand for these parts and have these priorities, or have this first fault
abbrev pub AreRead : List Member → ℕ → List Json → Result (List Part × List Priority) EntityFault → Type 0
AreRead members major entities (Ok read) = AreParts members major entities read.0 × ArePriorities entities read.1
AreRead members major entities (Err fault) = IsFirstOf members major entities fault

-- the root is refused with this fault, whichever members may not be special
abbrev pub RefusesRoot : Json → EntityFault → Type 0
RefusesRoot root fault = (members : List Member) → IsRefused members root fault

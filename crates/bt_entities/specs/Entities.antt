-- Which part an entity of a blueprint stands for.
use Rattle.std.specs.Prelude.{◌≡◌, ℕ, ◌*◌, ◌<◌, ◌≤◌, ℤ, unsigned_abs, List, [], ◌∷◌, Option, Some, None, codes, ◌⊎◌, if◌then◌else◌, nat_lt}
use Rattle.bt_parts.specs.declared.hand.Hand.{Hand}
use Rattle.bt_parts.specs.declared.hand.Hand.TheVariants.{Left, Right}
use Rattle.bt_parts.specs.declared.hand.Priority.{Priority}
use Rattle.bt_json.specs.declared.limits.TheConstants.{MOST_HALVES}
use Rattle.bt_json.specs.Json.{Json, Number}
use Rattle.bt_json.specs.Value.{IsTimes}
use Rattle.bt_parts.specs.declared.part.Cell.{Cell}
use Rattle.bt_parts.specs.declared.part.Dir.{Dir}
use Rattle.bt_parts.specs.declared.part.Dir.TheVariants.{North, East, South, West}
use Rattle.bt_parts.specs.declared.part.Kind.{Kind}
use Rattle.bt_parts.specs.declared.part.Kind.TheVariants.{Belt, Entrance, Exit, Splitter}
use Rattle.bt_parts.specs.declared.part.Part.{Part}
use Rattle.bt_parts.specs.declared.part.Tier.{Tier}
use Rattle.bt_entities.specs.declared.fault.Member.{Member}
use Rattle.bt_entities.specs.declared.fault.Member.TheVariants.{Entity, Name, Position, Direction, PieceType, InputPriority, OutputPriority, ControlBehavior, Filter}
use Rattle.bt_entities.specs.declared.name.EntityFamily.{EntityFamily}
use Rattle.bt_entities.specs.declared.name.EntityFamily.TheVariants.{Belts, Undergrounds, Splitters}
use Rattle.bt_entities.specs.declared.shift.Shift.{Shift}
use Rattle.bt_entities.specs.Members.{HasMember, Lacks, HasText, HasNumber, IsWhole}
use Rattle.bt_entities.specs.Names.{name_of}
use Rattle.bt_entities.specs.Places.{width_of, height_of, IsMiddle}

-- the entity's name is one of this family
abbrev pub HasFamily : Json → EntityFamily → Type 0
HasFamily v family = (tier : Tier) × HasText v (codes "name") (name_of family tier)

-- the entity's name is one of this tier
abbrev pub HasTier : Json → Tier → Type 0
HasTier v tier = (family : EntityFamily) × HasText v (codes "name") (name_of family tier)

-- the entity's name, and of an underground piece its type, is one of this kind
abbrev pub HasKind : Json → Kind → Type 0
HasKind v Belt = HasFamily v Belts
HasKind v Entrance = HasFamily v Undergrounds × HasText v (codes "type") (codes "input")
HasKind v Exit = HasFamily v Undergrounds × HasText v (codes "type") (codes "output")
HasKind v Splitter = HasFamily v Splitters

-- how many quarters of a turn from north, with the sun
abbrev pub quarters_of : Dir → ℕ
quarters_of North = 0
quarters_of East = 1
quarters_of South = 2
quarters_of West = 3

-- the value of a direction: eighths of a turn below major version 2, and sixteenths from there on
abbrev pub direction_value : ℕ → Dir → ℕ
direction_value major dir = quarters_of dir * (if nat_lt major 2 then 2 else 4)

-- the entity has this direction; one that names none points north
abbrev pub HasDirection : ℕ → Json → Dir → Type 0
HasDirection major v dir = (Lacks v (codes "direction") × (dir ≡ North))
    ⊎ ((m : Json) × HasMember v (codes "direction") m × IsWhole m (direction_value major dir))

-- the entity's position has these two numbers
pub record HasPosition (v : Json) (x y : Number) : Type 0 where
  pub position : Json
  pub is_there : HasMember v (codes "position") position
  pub has_x : HasNumber position (codes "x") x
  pub has_y : HasNumber position (codes "y") y

-- twice the number is this whole number, of at most the magnitude that is told in halves
abbrev pub IsHalves : Number → ℤ → Type 0
IsHalves n z = IsTimes 2 n z × (unsigned_abs z ≤ MOST_HALVES)

-- the entity's position is the centre of its part with this cell, on the shifted grid
pub record IsPlaced (major : ℕ) (shift : Shift) (v : Json) (cell : Cell) : Type 0 where
  pub kind : Kind
  pub has_kind : HasKind v kind
  pub dir : Dir
  pub has_dir : HasDirection major v dir
  pub x : Number
  pub y : Number
  pub has_position : HasPosition v x y
  pub twice_x : ℤ
  pub halves_x : IsHalves x twice_x
  pub middle_x : IsMiddle twice_x (width_of kind dir) shift.x cell.x
  pub twice_y : ℤ
  pub halves_y : IsHalves y twice_y
  pub middle_y : IsMiddle twice_y (height_of kind dir) shift.y cell.y

-- the entity stands on the grid with this shift, which is 0 or 1 halves of a tile each way
pub record SetsShift (major : ℕ) (v : Json) (shift : Shift) : Type 0 where
  pub small_x : shift.x < 2
  pub small_y : shift.y < 2
  pub cell : Cell
  pub placed : IsPlaced major shift v cell

-- this is the entity's cell on the grid of entity 0: both stand on the grid with one shift
pub record IsInCell (major : ℕ) (first v : Json) (cell : Cell) : Type 0 where
  pub shift : Shift
  pub sets : SetsShift major first shift
  pub placed : IsPlaced major shift v cell

-- the priority of that name is absent or `none`
abbrev pub IsEven : Json → List ℕ → Type 0
IsEven v name = Lacks v name ⊎ HasText v name (codes "none")

-- how a hand is written
abbrev pub hand_text : Hand → List ℕ
hand_text Left = codes "left"
hand_text Right = codes "right"

-- the priority of that name is a side
abbrev pub IsSided : Json → List ℕ → Type 0
IsSided v name = (hand : Hand) × HasText v name (hand_text hand)

-- the side that the entity prefers by the priority of that name, which only a splitter has
abbrev pub Prefers : Json → List ℕ → Option Hand → Type 0
Prefers v name None = HasFamily v Splitters → IsEven v name
Prefers v name (Some hand) = HasFamily v Splitters × HasText v name (hand_text hand)

-- the entity has these priorities
pub record HasPriority (v : Json) (priority : Priority) : Type 0 where
  pub gives : Prefers v (codes "output_priority") priority.give
  pub takes : Prefers v (codes "input_priority") priority.take

-- the member gives an entity what is special: a condition, a filter or a preferred side of a splitter
abbrev pub IsSpecial : Json → Member → Type 0
IsSpecial v Entity = ⊥
IsSpecial v Name = ⊥
IsSpecial v Position = ⊥
IsSpecial v Direction = ⊥
IsSpecial v PieceType = ⊥
IsSpecial v InputPriority = HasFamily v Splitters × IsSided v (codes "input_priority")
IsSpecial v OutputPriority = HasFamily v Splitters × IsSided v (codes "output_priority")
IsSpecial v ControlBehavior = (m : Json) × HasMember v (codes "control_behavior") m
IsSpecial v Filter = (m : Json) × HasMember v (codes "filter") m

-- the member is the first of the list of which this holds
abbrev pub IsFirst : (Member → Type 0) → List Member → Member → Type 0
IsFirst P [] member = ⊥
IsFirst P (m ∷ ms) member = (P m × (member ≡ m)) ⊎ ((¬ P m) × IsFirst P ms member)

-- the members that may not be special, in their order: of a design a condition and a filter
abbrev pub special_in_designs : List Member
special_in_designs = ControlBehavior ∷ Filter ∷ []

-- and of a layout also a preferred side
abbrev pub special_in_layouts : List Member
special_in_layouts = ControlBehavior ∷ Filter ∷ InputPriority ∷ OutputPriority ∷ []

-- the first special one of these members
abbrev pub IsFirstSpecial : List Member → Json → Member → Type 0
IsFirstSpecial members v member = IsFirst (IsSpecial v) members member

-- none of these members is special
abbrev pub IsPlain : List Member → Json → Type 0
IsPlain members v = (member : Member) → ¬ IsFirstSpecial members v member

-- the value is an entity that stands for this part, in a blueprint whose entity 0 is the first, and none of these
-- members of it is special
pub record IsEntity (members : List Member) (major : ℕ) (first v : Json) (part : Part) : Type 0 where
  pub has_kind : HasKind v part.kind
  pub has_tier : HasTier v part.tier
  pub has_dir : HasDirection major v part.dir
  pub in_cell : IsInCell major first v part.cell
  pub priority : Priority
  pub has_priority : HasPriority v priority
  pub plain : IsPlain members v

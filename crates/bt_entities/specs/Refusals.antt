-- When a text that is JSON is refused as a blueprint, and for what.
use Rattle.std.specs.Prelude.{◌≡◌, ◌≢◌, ℕ, ◌<◌, ◌≤◌, List, [], ◌∷◌, length, codes, ◌⊎◌}
use Rattle.bt_json.specs.Json.{Json, Number, Items, list}
use Rattle.bt_parts.specs.declared.part.Cell.{Cell}
use Rattle.bt_parts.specs.declared.part.Dir.{Dir}
use Rattle.bt_parts.specs.declared.part.Tier.{Tier}
use Rattle.bt_entities.specs.declared.blueprint.TheConstants.{MOST_ENTITIES}
use Rattle.bt_entities.specs.declared.fault.EntityFault.{EntityFault}
use Rattle.bt_entities.specs.declared.fault.EntityFault.TheVariants.{NotBlueprint, Book, TooMany, Unsupported, BadMember, OffGrid, Special, Memory}
use Rattle.bt_entities.specs.declared.fault.Member.{Member}
use Rattle.bt_entities.specs.declared.fault.Member.TheVariants.{Entity, Name, Position, Direction, PieceType, InputPriority, OutputPriority, ControlBehavior, Filter}
use Rattle.bt_entities.specs.declared.name.EntityFamily.{EntityFamily}
use Rattle.bt_entities.specs.declared.name.EntityFamily.TheVariants.{Undergrounds, Splitters}
use Rattle.bt_entities.specs.Members.{HasMember, Lacks, HasText, IsObject}
use Rattle.bt_entities.specs.Names.{name_of}
use Rattle.bt_entities.specs.Entities.{HasFamily, HasPosition, HasDirection, IsInCell, IsEven, IsSided, IsFirst, IsFirstSpecial}
use Rattle.bt_entities.specs.Blueprints.{IsVersion, IsBlueprint, HasEntity}

-- a member of that name is there and isn't what it has to be
abbrev pub HasWrong : Json → List ℕ → (Json → Type 0) → Type 0
HasWrong v name IsRight = (m : Json) × HasMember v name m × ¬ IsRight m

-- the value is a list
abbrev pub IsList : Json → Type 0
IsList v = (items : Items) × (v ≡ list items)

-- the root is no object, or has neither a blueprint nor a book, or the blueprint is no object, or its entities are no
-- list, or its version is no whole number that fits 64 bits
abbrev pub IsNotBlueprint : Json → Type 0
IsNotBlueprint root = (¬ IsObject root)
    ⊎ (Lacks root (codes "blueprint") × Lacks root (codes "blueprint_book"))
    ⊎ HasWrong root (codes "blueprint") IsObject
    ⊎ ((b : Json) × HasMember root (codes "blueprint") b × HasWrong b (codes "entities") IsList)
    ⊎ ((b : Json) × HasMember root (codes "blueprint") b × HasWrong b (codes "version") (λ v. (major : ℕ) × IsVersion v major))

-- the root has no blueprint, and has a book of blueprints
abbrev pub IsBook : Json → Type 0
IsBook root = Lacks root (codes "blueprint") × ((book : Json) × HasMember root (codes "blueprint_book") book)

-- the blueprint has more than the most entities
abbrev pub HasTooMany : Json → Type 0
HasTooMany root = (major : ℕ) × (entities : List Json) × IsBlueprint root major entities × (MOST_ENTITIES < length entities)

-- the entity's name is this text, which names no part
abbrev pub IsUnsupported : Json → List ℕ → Type 0
IsUnsupported v name = HasText v (codes "name") name × ((family : EntityFamily) (tier : Tier) → name ≢ name_of family tier)

-- the member of an entity isn't what it has to be
abbrev pub IsWrong : ℕ → Json → Member → Type 0
IsWrong major v Entity = ¬ IsObject v
IsWrong major v Name = (name : List ℕ) → ¬ HasText v (codes "name") name
IsWrong major v Position = (x y : Number) → ¬ HasPosition v x y
IsWrong major v Direction = (dir : Dir) → ¬ HasDirection major v dir
IsWrong major v PieceType = HasFamily v Undergrounds × (¬ HasText v (codes "type") (codes "input")) × (¬ HasText v (codes "type") (codes "output"))
IsWrong major v InputPriority = HasFamily v Splitters × (¬ IsEven v (codes "input_priority")) × (¬ IsSided v (codes "input_priority"))
IsWrong major v OutputPriority = HasFamily v Splitters × (¬ IsEven v (codes "output_priority")) × (¬ IsSided v (codes "output_priority"))
IsWrong major v ControlBehavior = ⊥
IsWrong major v Filter = ⊥

-- the members in the order in which they may be wrong
abbrev pub tested_members : List Member
tested_members = Entity ∷ Name ∷ Position ∷ Direction ∷ PieceType ∷ InputPriority ∷ OutputPriority ∷ []

-- the first wrong member
abbrev pub IsBadMember : ℕ → Json → Member → Type 0
IsBadMember major v member = IsFirst (IsWrong major v) tested_members member

-- no cell is the entity's on the grid of entity 0: a coordinate is no multiple of a half or too great, or the halves
-- don't agree with entity 0's, or entity 0 stands on no grid
abbrev pub IsOffGrid : ℕ → Json → Json → Type 0
IsOffGrid major first v = (cell : Cell) → ¬ IsInCell major first v cell

-- the fault is one of the entity with this index, of which these members may not be special
abbrev pub IsFault : List Member → ℕ → Json → ℕ → Json → EntityFault → Type 0
IsFault members major first i v (Unsupported at name) = (at ≡ i) × IsUnsupported v name
IsFault members major first i v (BadMember at member) = (at ≡ i) × IsBadMember major v member
IsFault members major first i v (OffGrid at) = (at ≡ i) × IsOffGrid major first v
IsFault members major first i v (Special at member) = (at ≡ i) × IsFirstSpecial members v member
IsFault members major first i v other = ⊥

-- the numbers by which faults go before one another
abbrev pub number_of_fault : EntityFault → ℕ
number_of_fault NotBlueprint = 20
number_of_fault Book = 21
number_of_fault TooMany = 22
number_of_fault (Unsupported at name) = 23
number_of_fault (BadMember at member) = 24
number_of_fault (OffGrid at) = 25
number_of_fault (Special at member) = 27
number_of_fault Memory = 28

-- the fault is the one of the entity with the lowest number
pub record IsLowest (members : List Member) (major : ℕ) (first : Json) (i : ℕ) (v : Json) (fault : EntityFault) : Type 0 where
  pub is_fault : IsFault members major first i v fault
  pub no_lower : (other : EntityFault) → number_of_fault other < number_of_fault fault → ¬ IsFault members major first i v other

-- the fault is the lowest of the first entity that has one
pub record IsFirstOf (members : List Member) (major : ℕ) (entities : List Json) (fault : EntityFault) : Type 0 where
  pub first : Json
  pub is_first : HasEntity entities 0 first
  pub index : ℕ
  pub v : Json
  pub is_v : HasEntity entities index v
  pub lowest : IsLowest members major first index v fault
  pub none_before : (i : ℕ) (w : Json) (other : EntityFault) → i < index → HasEntity entities i w → ¬ IsFault members major first i w other

-- the root has a blueprint of no more than the most entities, and the fault is their first
pub record IsFirstFault (members : List Member) (root : Json) (fault : EntityFault) : Type 0 where
  pub major : ℕ
  pub entities : List Json
  pub is_blueprint : IsBlueprint root major entities
  pub few : length entities ≤ MOST_ENTITIES
  pub first : IsFirstOf members major entities fault

-- the root is refused with this fault, where these members may not be special; want of memory refuses nothing, since no
-- entity has it
abbrev pub IsRefused : List Member → Json → EntityFault → Type 0
IsRefused members root NotBlueprint = IsNotBlueprint root
IsRefused members root Book = IsBook root
IsRefused members root TooMany = HasTooMany root
IsRefused members root other = IsFirstFault members root other

-- The one text of a list of parts with their priorities as a blueprint.
use Rattle.std.specs.Prelude.{ℕ, ◌+◌, ◌/◌, ◌%◌, ◌==◌, ℤ, pos, negsuc, ◌+ℤ◌, ◌*ℤ◌, Bool, true, false, List, [], ◌++◌, map, Option, Some, None, codes, decimal, if◌then◌else◌}
use Rattle.std.specs.List.{enumerate_from, join_with_byte, list_any}
use Rattle.bt_parts.specs.declared.hand.Hand.{Hand}
use Rattle.bt_parts.specs.declared.hand.Hand.TheVariants.{Left, Right}
use Rattle.bt_parts.specs.declared.hand.Priority.{Priority}
use Rattle.bt_parts.specs.Hands.{priority_of}
use Rattle.bt_parts.specs.declared.part.Kind.{Kind}
use Rattle.bt_parts.specs.declared.part.Kind.TheVariants.{Belt, Entrance, Exit, Splitter}
use Rattle.bt_parts.specs.declared.part.Part.{Part}
use Rattle.bt_parts.specs.declared.part.Tier.{Tier}
use Rattle.bt_parts.specs.declared.part.Tier.TheVariants.{Turbo}
use Rattle.bt_entities.specs.declared.name.EntityFamily.{EntityFamily}
use Rattle.bt_entities.specs.declared.name.EntityFamily.TheVariants.{Belts, Undergrounds, Splitters}
use Rattle.bt_entities.specs.Entities.{direction_value}
use Rattle.bt_entities.specs.Names.{name_of}
use Rattle.bt_entities.specs.Places.{width_of, height_of}
use Rattle.bt_entities.specs.declared.version.Version.{Version}
use Rattle.bt_entities.specs.declared.version.Version.TheVariants.{Older, Newer}

-- the family of a kind's names
abbrev pub family_of : Kind → EntityFamily
family_of Belt = Belts
family_of Entrance = Undergrounds
family_of Exit = Undergrounds
family_of Splitter = Splitters

-- the half of a number, as `k` or `k.5`
abbrev pub half_text : ℕ → List ℕ
half_text n = decimal (n / 2) ++ (if n % 2 == 0 then [] else codes ".5")

-- a coordinate in halves of a tile, with a minus where it is negative
abbrev pub halves_text : ℤ → List ℕ
halves_text (pos n) = half_text n
halves_text (negsuc n) = codes "-" ++ half_text (n + 1)

-- twice the middle of so many tiles, of which the first begins at this coordinate
abbrev pub twice_middle : ℤ → ℕ → ℤ
twice_middle first size = (pos 2 *ℤ first) +ℤ pos size

-- the number of an entity, from 1
abbrev pub number_member : ℕ → List ℕ
number_member n = codes "{\"entity_number\":" ++ decimal n

-- the name for a part's kind and tier
abbrev pub name_member : Part → List ℕ
name_member p = codes ",\"name\":\"" ++ name_of (family_of p.kind) p.tier ++ codes "\""

-- the centre of a part
abbrev pub position_member : Part → List ℕ
position_member p =
    codes ",\"position\":{\"x\":" ++ halves_text (twice_middle p.cell.x (width_of p.kind p.dir))
    ++ codes ",\"y\":" ++ halves_text (twice_middle p.cell.y (height_of p.kind p.dir)) ++ codes "}"

-- the major number of a version
abbrev pub major_of : Version → ℕ
major_of Older = 1
major_of Newer = 2

-- a version as it is written: of 1.1.0 and of 2.0.0, the major number times 2 ^ 48 and the next times 2 ^ 32
abbrev pub version_digits : Version → List ℕ
version_digits Older = codes "281479271677952"
version_digits Newer = codes "562949953421312"

-- the part is of the turbo tier
abbrev pub is_turbo : Part → Bool
is_turbo p = of_tier p.tier
  where
    of_tier : Tier → Bool
    of_tier Turbo = true
    of_tier other = false

-- the version that has all of the parts: the newer one where some part is of the turbo tier, which the older one lacks
abbrev pub version_for : List Part → Version
version_for parts = if list_any is_turbo parts then Newer else Older

-- the direction, in eighths of a turn in the older version, and in sixteenths in the newer one
abbrev pub direction_member : Version → Part → List ℕ
direction_member version p = codes ",\"direction\":" ++ decimal (direction_value (major_of version) p.dir)

-- the word for a hand
abbrev pub hand_text : Hand → List ℕ
hand_text Left = codes "left"
hand_text Right = codes "right"

-- a member of this name for the hand that is preferred, where one is
abbrev pub hand_member : List ℕ → Option Hand → List ℕ
hand_member name None = []
hand_member name (Some hand) = codes ",\"" ++ name ++ codes "\":\"" ++ hand_text hand ++ codes "\""

-- of a splitter from which side it takes first, and to which it gives first, where it does
abbrev pub priority_members : Kind → Priority → List ℕ
priority_members Belt priority = []
priority_members Entrance priority = []
priority_members Exit priority = []
priority_members Splitter priority = hand_member (codes "input_priority") priority.take ++ hand_member (codes "output_priority") priority.give

-- of an underground piece whether items come in or go out there, and the end of the entity
abbrev pub type_member : Kind → List ℕ
type_member Belt = codes "}"
type_member Entrance = codes ",\"type\":\"input\"}"
type_member Exit = codes ",\"type\":\"output\"}"
type_member Splitter = codes "}"

-- the entity of a part that prefers this
abbrev pub entity_text : Version → ℕ → Part → Priority → List ℕ
entity_text version n p priority =
    number_member n ++ name_member p ++ position_member p ++ direction_member version p ++ priority_members p.kind priority ++ type_member p.kind

-- the entities of parts, which are numbered from 1 in their order
abbrev pub entity_texts : Version → List Part → List Priority → List (List ℕ)
entity_texts version parts priorities = map (λ numbered. entity_text version (numbered.0 + 1) numbered.1 (priority_of priorities numbered.0)) (enumerate_from 0 parts)

-- what stands before the entity with this index: a comma, but for the first
abbrev pub comma_before : ℕ → List ℕ
comma_before index = if index == 0 then [] else codes ","

-- the version, and the end of the blueprint
abbrev pub end_text : Version → List ℕ
end_text version = codes "],\"version\":" ++ version_digits version ++ codes "}}\n"

-- the blueprint of the parts in a version, with a comma between two entities
abbrev pub text_in : Version → List Part → List Priority → List ℕ
text_in version parts priorities = codes "{\"blueprint\":{\"item\":\"blueprint\",\"entities\":[" ++ join_with_byte 44 (entity_texts version parts priorities) ++ end_text version

-- the blueprint of the parts with these priorities, in the version that has them all
abbrev pub blueprint_text : List Part → List Priority → List ℕ
blueprint_text parts priorities = text_in (version_for parts) parts priorities

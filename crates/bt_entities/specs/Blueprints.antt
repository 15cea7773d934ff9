-- Which list of parts a blueprint is.
use Rattle.std.specs.Prelude.{◌≡◌, ℕ, ◌<◌, ◌≤◌, ◌/◌, ◌^◌, List, [], length, slice_get, Some, codes, ◌⊎◌}
use Rattle.bt_json.specs.Json.{Json, list}
use Rattle.bt_json.specs.Stands.{items_of}
use Rattle.bt_parts.specs.declared.hand.Priority.{Priority}
use Rattle.bt_parts.specs.declared.part.Part.{Part}
use Rattle.bt_entities.specs.declared.blueprint.TheConstants.{MOST_ENTITIES}
use Rattle.bt_entities.specs.Members.{HasMember, Lacks, IsObject, IsWhole}
use Rattle.bt_entities.specs.declared.fault.Member.{Member}
use Rattle.bt_entities.specs.Entities.{HasPriority, IsEntity}

-- the value is a version with this major number
abbrev pub IsVersion : Json → ℕ → Type 0
IsVersion v major = (version : ℕ) × (version < 2 ^ 64) × IsWhole v version × (major ≡ version / 2 ^ 48)

-- a blueprint without a version has major number 1
abbrev pub HasMajor : Json → ℕ → Type 0
HasMajor blueprint major = (Lacks blueprint (codes "version") × (major ≡ 1))
    ⊎ ((v : Json) × HasMember blueprint (codes "version") v × IsVersion v major)

-- a blueprint without entities has an empty list of them
abbrev pub HasEntities : Json → List Json → Type 0
HasEntities blueprint entities = (Lacks blueprint (codes "entities") × (entities ≡ []))
    ⊎ HasMember blueprint (codes "entities") (list (items_of entities))

-- the root has a blueprint with this major version and these entities
pub record IsBlueprint (root : Json) (major : ℕ) (entities : List Json) : Type 0 where
  pub blueprint : Json
  pub is_there : HasMember root (codes "blueprint") blueprint
  pub is_object : IsObject blueprint
  pub has_major : HasMajor blueprint major
  pub has_entities : HasEntities blueprint entities

-- the list has this entity with this index
abbrev pub HasEntity : List Json → ℕ → Json → Type 0
HasEntity entities i v = slice_get entities i ≡ Some v

-- the entities stand for these parts, in their order, the first of them sets the grid of all, and none of these members
-- is special
pub record AreParts (members : List Member) (major : ℕ) (entities : List Json) (parts : List Part) : Type 0 where
  pub same_length : length parts ≡ length entities
  pub each : (first v : Json) (part : Part) (i : ℕ) → HasEntity entities 0 first → HasEntity entities i v
      → slice_get parts i ≡ Some part → IsEntity members major first v part

-- the entities have these priorities, in their order
pub record ArePriorities (entities : List Json) (priorities : List Priority) : Type 0 where
  pub same_length : length priorities ≡ length entities
  pub each : (v : Json) (priority : Priority) (i : ℕ) → HasEntity entities i v → slice_get priorities i ≡ Some priority → HasPriority v priority

-- the root has a blueprint of no more than the most entities, which stand for these parts, and of which none of these
-- members is special
pub record IsBlueprintOf (members : List Member) (root : Json) (parts : List Part) : Type 0 where
  pub major : ℕ
  pub entities : List Json
  pub is_blueprint : IsBlueprint root major entities
  pub few : length entities ≤ MOST_ENTITIES
  pub are_parts : AreParts members major entities parts

-- the entities of the root's blueprint have these priorities
pub record HavePriorities (root : Json) (priorities : List Priority) : Type 0 where
  pub major : ℕ
  pub entities : List Json
  pub is_blueprint : IsBlueprint root major entities
  pub are_priorities : ArePriorities entities priorities

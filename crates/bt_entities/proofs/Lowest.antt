-- The lowest fault of an entity.
use Rattle.std.proofs.Common.{ℕ, ◌<◌, List, [], ◌∷◌, refl, arith, inl, inr}
use Rattle.std.specs.Prelude.{codes}
use Rattle.bt_json.specs.Json.{Json, Number}
use Rattle.bt_parts.specs.declared.part.Dir.{Dir}
use Rattle.bt_parts.specs.declared.part.Tier.{Tier}
use Rattle.bt_entities.specs.declared.fault.EntityFault.{EntityFault}
use Rattle.bt_entities.specs.declared.fault.EntityFault.TheVariants.{Unsupported, BadMember, OffGrid, Special}
use Rattle.bt_entities.specs.declared.fault.Member.{Member}
use Rattle.bt_entities.specs.declared.fault.Member.TheVariants.{Entity, Name, Position, Direction, PieceType}
use Rattle.bt_entities.specs.declared.name.EntityFamily.{EntityFamily}
use Rattle.bt_entities.specs.Members.{HasText}
use Rattle.bt_entities.specs.Names.{name_of}
use Rattle.bt_entities.specs.Entities.{HasDirection, HasPosition, IsFirst, IsFirstSpecial, IsPlain}
use Rattle.bt_entities.specs.Refusals.{IsFault, IsLowest, IsUnsupported, IsWrong, IsBadMember, IsOffGrid, tested_members, number_of_fault}
use Rattle.bt_entities.specs.inner.Pieces.{IsWrongPriority}
use Rattle.bt_entities.proofs.Unique.{object_of, same_text}

pub none_first : (P : Member → Type 0) (ms : List Member) (member : Member) → ((m : Member) → ¬ P m) → IsFirst P ms member → ⊥
none_first P [] member none h = h
none_first P (m ∷ ms) member none h = elim h [ inl here ↦ none m here.0 | inr later ↦ none_first P ms member none later.1 ]

-- the entity's name names a part, or is no text
abbrev pub IsNamed : Json → Type 0
IsNamed v = (name : List ℕ) → ¬ IsUnsupported v name

pub named : (v : Json) (family : EntityFamily) (tier : Tier) → HasText v (codes "name") (name_of family tier) → IsNamed v
named v family tier at name u = u.1 family tier (same_text v (codes "name") name (name_of family tier) u.0 at)

-- the entity has none of the faults with numbers below this one
pub record Passes (members : List Member) (major : ℕ) (first v : Json) (n : ℕ) : Type 0 where
  pub named : 23 < n → IsNamed v
  pub right : 24 < n → (m : Member) → ¬ IsWrong major v m
  pub on_grid : 25 < n → ¬ IsOffGrid major first v
  pub plain : 27 < n → IsPlain members v

pub none_below : (members : List Member) (major : ℕ) (first : Json) (i : ℕ) (v : Json) (n : ℕ) → Passes members major first v n
    → (other : EntityFault) → number_of_fault other < n → ¬ IsFault members major first i v other
none_below members major first i v n p (Unsupported at name) lt f = p.named lt name f.1
none_below members major first i v n p (BadMember at member) lt f = none_first (IsWrong major v) tested_members member (p.right lt) f.1
none_below members major first i v n p (OffGrid at) lt f = p.on_grid lt f.1
none_below members major first i v n p (Special at member) lt f = p.plain lt member f.1
none_below members major first i v n p other lt f = f

-- the entity has the fault and none with a lower number
lowest : (members : List Member) (major : ℕ) (first : Json) (i : ℕ) (v : Json) (fault : EntityFault) → Passes members major first v (number_of_fault fault)
    → IsFault members major first i v fault → IsLowest members major first i v fault
lowest members major first i v fault p f = record { is_fault = f; no_lower = none_below members major first i v (number_of_fault fault) p }

pub lowest_bad : (members : List Member) (major : ℕ) (first : Json) (i : ℕ) (v : Json) (member : Member) → IsNamed v → IsBadMember major v member → IsLowest members major first i v (BadMember i member)
lowest_bad members major first i v member n h = lowest members major first i v (BadMember i member) (record {
  named = λ _. n;
  right = λ lt. absurd (omega arith);
  on_grid = λ lt. absurd (omega arith);
  plain = λ lt. absurd (omega arith);
}) (refl, h)

-- the entity has a name of a part, and no member of it is wrong
pub record IsRight (major : ℕ) (v : Json) : Type 0 where
  pub named : IsNamed v
  pub right : (m : Member) → ¬ IsWrong major v m

pub lowest_off : (members : List Member) (major : ℕ) (first : Json) (i : ℕ) (v : Json) → IsRight major v → IsOffGrid major first v → IsLowest members major first i v (OffGrid i)
lowest_off members major first i v r h = lowest members major first i v (OffGrid i) (record {
  named = λ _. r.named;
  right = λ _. r.right;
  on_grid = λ lt. absurd (omega arith);
  plain = λ lt. absurd (omega arith);
}) (refl, h)

pub lowest_special : (members : List Member) (major : ℕ) (first : Json) (i : ℕ) (v : Json) (member : Member) → IsRight major v → ¬ IsOffGrid major first v
    → IsFirstSpecial members v member → IsLowest members major first i v (Special i member)
lowest_special members major first i v member r on h = lowest members major first i v (Special i member) (record {
  named = λ _. r.named;
  right = λ _. r.right;
  on_grid = λ _. on;
  plain = λ lt. absurd (omega arith);
}) (refl, h)

-- what the entities with a name have right
has_object : (major : ℕ) (v : Json) (name : List ℕ) → HasText v (codes "name") name → ¬ IsWrong major v Entity
has_object major v name at wrong = wrong (object_of v (codes "name") _ at)

pub has_name : (major : ℕ) (v : Json) (name : List ℕ) → HasText v (codes "name") name → ¬ IsWrong major v Name
has_name major v name at wrong = wrong name at

-- the entity with a name, a position and a direction
pub record IsBegun (major : ℕ) (v : Json) : Type 0 where
  pub entity : ¬ IsWrong major v Entity
  pub name : ¬ IsWrong major v Name
  pub position : ¬ IsWrong major v Position
  pub direction : ¬ IsWrong major v Direction

pub begun : (major : ℕ) (v : Json) (name : List ℕ) (x y : Number) (dir : Dir) → HasText v (codes "name") name → HasPosition v x y → HasDirection major v dir → IsBegun major v
begun major v name x y dir at p d = record {
  entity = has_object major v name at;
  name = has_name major v name at;
  position = λ wrong. wrong x y p;
  direction = λ wrong. wrong dir d;
}

pub bad_type : (major : ℕ) (v : Json) → IsBegun major v → IsWrong major v PieceType → IsBadMember major v PieceType
bad_type major v b wrong = inr (b.entity, inr (b.name, inr (b.position, inr (b.direction, inl (wrong, refl)))))

pub bad_priority : (major : ℕ) (v : Json) (member : Member) → IsBegun major v → ¬ IsWrong major v PieceType → IsWrongPriority v member → IsBadMember major v member
bad_priority major v member b t wrong = inr (b.entity, inr (b.name, inr (b.position, inr (b.direction, inr (t, wrong major)))))

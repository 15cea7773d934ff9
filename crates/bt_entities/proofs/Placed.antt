-- Pieces and the cells that they have.
use Rattle.std.proofs.Common.{◌≡◌, ◌≢◌, ℕ, ◌<◌, ◌≤◌, ℤ, List, length, get_or, Option, Some, None, ap, ◌∙◌, subst, arith, inl, inr}
use Rattle.std.specs.Prelude.{codes}
use Rattle.bt_json.specs.Json.{Json, Number}
use Rattle.bt_parts.specs.declared.part.Cell.{Cell}
use Rattle.bt_parts.specs.declared.part.Dir.{Dir}
use Rattle.bt_parts.specs.declared.part.Dir.TheVariants.{North, East}
use Rattle.bt_parts.specs.declared.part.Kind.{Kind}
use Rattle.bt_parts.specs.declared.part.Kind.TheVariants.{Belt, Entrance, Exit, Splitter}
use Rattle.bt_parts.specs.declared.part.Part.{Part}
use Rattle.bt_parts.specs.declared.part.Tier.{Tier}
use Rattle.bt_parts.specs.Cells.{IsInRange}
use Rattle.bt_entities.specs.declared.fault.EntityFault.{EntityFault}
use Rattle.bt_entities.specs.declared.fault.EntityFault.TheVariants.{NotBlueprint, OffGrid, Special}
use Rattle.bt_entities.specs.declared.fault.Member.{Member}
use Rattle.bt_entities.specs.declared.fault.Member.TheVariants.{Entity, Name, Position, Direction, PieceType, InputPriority, OutputPriority}
use Rattle.bt_entities.specs.declared.name.EntityFamily.TheVariants.{Belts, Undergrounds, Splitters}
use Rattle.bt_entities.specs.declared.piece.Piece.{Piece}
use Rattle.bt_parts.specs.declared.hand.Hand.{Hand}
use Rattle.bt_parts.specs.declared.hand.Hand.TheVariants.{Left, Right}
use Rattle.bt_parts.specs.declared.hand.Priority.{Priority}
use Rattle.bt_entities.specs.declared.shift.Shift.{Shift}
use Rattle.bt_entities.specs.Members.{Lacks, HasMember, HasText}
use Rattle.bt_entities.specs.Names.{name_of}
use Rattle.bt_entities.specs.Places.{width_of, height_of, IsMiddle}
use Rattle.bt_entities.specs.Entities.{HasFamily, HasTier, HasKind, IsHalves, IsPlaced, SetsShift, IsInCell, IsEven, hand_text, IsSided, Prefers, HasPriority, IsFirstSpecial, IsPlain, IsEntity, special_in_layouts}
use Rattle.bt_entities.specs.Refusals.{IsFault, IsWrong, IsOffGrid, IsLowest, number_of_fault}
use Rattle.bt_entities.specs.inner.Pieces.{AreHalves, IsPiece, IsOn, HasShift, IsFirstShift}
use Rattle.bt_entities.proofs.Unique.{object_of, same_text, same_kind, same_dir, same_family, same_position, same_times, lacks_or_has}
use Rattle.bt_entities.proofs.Middles.{same_middle, middle_near}
use Rattle.bt_entities.proofs.Lowest.{IsNamed, named, IsRight, none_below, lowest_off, lowest_special}

halves_some : (n : Number) (o : Option ℤ) (z : ℤ) → AreHalves n o → IsHalves n z → o ≡ Some z
halves_some n None z h i = absurd (h z i)
halves_some n (Some w) z h i = ap Some (same_times 2 n w z h.0 i.0)

halves_at : (n : Number) (o : Option ℤ) (z : ℤ) → AreHalves n o → o ≡ Some z → IsHalves n z
halves_at n o z h e = rw e at h

-- what is placed for an entity is its piece's cell
placed_on : (major : ℕ) (v : Json) (piece : Piece) (shift : Shift) (cell : Cell) → IsPiece major v piece → IsPlaced major shift v cell → IsOn piece shift cell
placed_on major v piece shift cell p a =
    let k : a.kind ≡ piece.kind = same_kind v _ _ a.has_kind p.has_kind in
    let d : a.dir ≡ piece.dir = same_dir major v _ _ a.has_dir p.has_dir in
    let at = same_position v a.x a.y p.x p.y a.has_position p.has_position in
    let hx : IsHalves p.x a.twice_x = rw at.same_x at a.halves_x in
    let hy : IsHalves p.y a.twice_y = rw at.same_y at a.halves_y in
    record {
      twice_x = a.twice_x;
      has_x = halves_some p.x piece.x a.twice_x p.halves_x hx;
      middle_x = rw (k, d) at a.middle_x;
      twice_y = a.twice_y;
      has_y = halves_some p.y piece.y a.twice_y p.halves_y hy;
      middle_y = rw (k, d) at a.middle_y;
    }

on_placed : (major : ℕ) (v : Json) (piece : Piece) (shift : Shift) (cell : Cell) → IsPiece major v piece → IsOn piece shift cell → IsPlaced major shift v cell
on_placed major v piece shift cell p a = record {
  kind = piece.kind;
  has_kind = p.has_kind;
  dir = piece.dir;
  has_dir = p.has_dir;
  x = p.x;
  y = p.y;
  has_position = p.has_position;
  twice_x = a.twice_x;
  halves_x = halves_at p.x piece.x a.twice_x p.halves_x a.has_x;
  middle_x = a.middle_x;
  twice_y = a.twice_y;
  halves_y = halves_at p.y piece.y a.twice_y p.halves_y a.has_y;
  middle_y = a.middle_y;
}

pub record SamePlace (a b : Shift) (c d : Cell) : Type 0 where
  pub same_shift : a ≡ b
  pub same_cell : c ≡ d

abbrev shift_at : ℕ → ℕ → Shift
shift_at x y = record { x = x; y = y }

abbrev cell_at : ℤ → ℤ → Cell
cell_at x y = record { x = x; y = y }

same_record : (a b : Shift) (c d : Cell) → a.x ≡ b.x → a.y ≡ b.y → c.x ≡ d.x → c.y ≡ d.y → SamePlace a b c d
same_record a b c d ax ay cx cy = record {
  same_shift = ap (λ x. shift_at x a.y) ax ∙ ap (λ y. shift_at b.x y) ay;
  same_cell = ap (λ x. cell_at x c.y) cx ∙ ap (λ y. cell_at d.x y) cy;
}

-- an entity has one shift and one cell at most
pub same_place : (major : ℕ) (v : Json) (s t : Shift) (c d : Cell) → s.x < 2 → s.y < 2 → t.x < 2 → t.y < 2
    → IsPlaced major s v c → IsPlaced major t v d → SamePlace s t c d
same_place major v s t c d sx sy tx ty a b =
    let k : a.kind ≡ b.kind = same_kind v _ _ a.has_kind b.has_kind in
    let e : a.dir ≡ b.dir = same_dir major v _ _ a.has_dir b.has_dir in
    let at = same_position v a.x a.y b.x b.y a.has_position b.has_position in
    let hx : a.twice_x ≡ b.twice_x = same_times 2 b.x _ _ (rw at.same_x at a.halves_x.0) b.halves_x.0 in
    let hy : a.twice_y ≡ b.twice_y = same_times 2 b.y _ _ (rw at.same_y at a.halves_y.0) b.halves_y.0 in
    let x = same_middle b.twice_x (width_of b.kind b.dir) s.x t.x c.x d.x sx tx (rw (← hx, ← k, ← e) a.middle_x) b.middle_x in
    let y = same_middle b.twice_y (height_of b.kind b.dir) s.y t.y c.y d.y sy ty (rw (← hy, ← k, ← e) a.middle_y) b.middle_y in
    same_record s t c d x.same_shift y.same_shift x.same_first y.same_first

pub same_shift : (major : ℕ) (v : Json) (s t : Shift) → SetsShift major v s → SetsShift major v t → s ≡ t
same_shift major v s t a b = (same_place major v s t a.cell b.cell a.small_x a.small_y b.small_x b.small_y a.placed b.placed).same_shift

width_few : (kind : Kind) (dir : Dir) → width_of kind dir ≤ 2
width_few Splitter North = omega arith
width_few kind dir = omega arith

height_few : (kind : Kind) (dir : Dir) → height_of kind dir ≤ 2
height_few Splitter East = omega arith
height_few kind dir = omega arith

-- each part's cell is in range
pub entity_in_range : (members : List Member) (major : ℕ) (first v : Json) (part : Part) → IsEntity members major first v part → IsInRange part.cell
entity_in_range members major first v part e =
    let at = e.in_cell in let p = at.placed in (
      middle_near p.twice_x _ at.shift.x part.cell.x (width_few p.kind p.dir) at.sets.small_x p.halves_x.1 p.middle_x,
      middle_near p.twice_y _ at.shift.y part.cell.y (height_few p.kind p.dir) at.sets.small_y p.halves_y.1 p.middle_y,
    )

pub tier_named : (v : Json) (tier : Tier) → HasTier v tier → IsNamed v
tier_named v tier h = named v h.0 tier h.1

tier_object : (major : ℕ) (v : Json) (tier : Tier) → HasTier v tier → ¬ IsWrong major v Entity
tier_object major v tier h wrong = wrong (object_of v (codes "name") _ h.1)

tier_name : (major : ℕ) (v : Json) (tier : Tier) → HasTier v tier → ¬ IsWrong major v Name
tier_name major v tier h wrong = wrong (name_of h.0 tier) h.1

pub kind_typed : (major : ℕ) (v : Json) (kind : Kind) → HasKind v kind → ¬ IsWrong major v PieceType
kind_typed major v Belt h wrong = let e : Belts ≡ Undergrounds = same_family v _ _ h wrong.0 in absurd cc
kind_typed major v Entrance h wrong = wrong.1 h.1
kind_typed major v Exit h wrong = wrong.2 h.1
kind_typed major v Splitter h wrong = let e : Splitters ≡ Undergrounds = same_family v _ _ h wrong.0 in absurd cc

texts_apart : (v : Json) (name s t : List ℕ) → HasText v name s → HasText v name t → length s ≢ length t → ⊥
texts_apart v name s t a b ne = ne (ap length (same_text v name s t a b))

none_left : (v : Json) (name : List ℕ) → HasText v name (codes "none") → HasText v name (codes "left") → ⊥
none_left v name a b =
    let e : get_or (codes "none") 0 0 ≡ get_or (codes "left") 0 0 = ap (λ ts. get_or ts 0 0) (same_text v name _ _ a b) in
    absurd (omega arith)

none_hand : (v : Json) (name : List ℕ) (hand : Hand) → HasText v name (codes "none") → HasText v name (hand_text hand) → ⊥
none_hand v name Left a b = none_left v name a b
none_hand v name Right a b = texts_apart v name _ _ a b (omega arith)

-- a priority that is even has no side
pub even_or_sided : (v : Json) (name : List ℕ) → IsEven v name → IsSided v name → ⊥
even_or_sided v name even sided = elim even [
  | inl lacks ↦ lacks_or_has v name _ lacks sided.1
  | inr none ↦ none_hand v name sided.0 none sided.1
]

preference_right : (v : Json) (name : List ℕ) (preferred : Option Hand) → Prefers v name preferred
    → HasFamily v Splitters × (¬ IsEven v name) × (¬ IsSided v name) → ⊥
preference_right v name None p wrong = wrong.1 (p wrong.0)
preference_right v name (Some hand) p wrong = wrong.2 (hand, p.1)

-- a piece has no wrong member
piece_right : (major : ℕ) (v : Json) (piece : Piece) → IsPiece major v piece → (m : Member) → ¬ IsWrong major v m
piece_right major v piece p Entity wrong = tier_object major v piece.tier p.has_tier wrong
piece_right major v piece p Name wrong = tier_name major v piece.tier p.has_tier wrong
piece_right major v piece p Position wrong = wrong p.x p.y p.has_position
piece_right major v piece p Direction wrong = wrong piece.dir p.has_dir
piece_right major v piece p PieceType wrong = kind_typed major v piece.kind p.has_kind wrong
piece_right major v piece p InputPriority wrong = preference_right v (codes "input_priority") piece.priority.take p.has_priority.takes wrong
piece_right major v piece p OutputPriority wrong = preference_right v (codes "output_priority") piece.priority.give p.has_priority.gives wrong
piece_right major v piece p other wrong = wrong

right_of : (major : ℕ) (v : Json) (piece : Piece) → IsPiece major v piece → IsRight major v
right_of major v piece p = record { named = tier_named v piece.tier p.has_tier; right = piece_right major v piece p }

-- an entity that stands for a part is a piece
piece_of : (members : List Member) (major : ℕ) (first v : Json) (part : Part) → IsEntity members major first v part → (piece : Piece) × IsPiece major v piece
piece_of members major first v part e =
    let p = e.in_cell.placed in (
      record { kind = part.kind; tier = part.tier; dir = part.dir; x = Some p.twice_x; y = Some p.twice_y; priority = e.priority },
      record {
        has_kind = e.has_kind;
        has_tier = e.has_tier;
        has_dir = e.has_dir;
        x = p.x;
        y = p.y;
        has_position = p.has_position;
        halves_x = p.halves_x;
        halves_y = p.halves_y;
        has_priority = e.has_priority;
      },
    )

number_small : (fault : EntityFault) → number_of_fault fault < 29
number_small NotBlueprint = omega arith
number_small other = omega arith

-- an entity that stands for a part has no fault
pub entity_sound : (members : List Member) (major : ℕ) (first : Json) (i : ℕ) (v : Json) (part : Part) → IsEntity members major first v part
    → (fault : EntityFault) → ¬ IsFault members major first i v fault
entity_sound members major first i v part e fault =
    let p = piece_of members major first v part e in
    none_below members major first i v 29 (record {
      named = λ _. tier_named v part.tier e.has_tier;
      right = λ _. piece_right major v p.0 p.1;
      on_grid = λ _ off. off part.cell e.in_cell;
      plain = λ _. e.plain;
    }) fault (number_small fault)

-- a piece with a shift stands on the grid
sets_shift : (major : ℕ) (v : Json) (piece : Piece) (shift : Shift) → IsPiece major v piece → HasShift piece shift → SetsShift major v shift
sets_shift major v piece shift p h = record { small_x = h.small_x; small_y = h.small_y; cell = h.cell; placed = on_placed major v piece shift h.cell p h.on }

pub has_shift : (piece : Piece) (x y : ℤ) (w h s t : ℕ) (c d : ℤ) → piece.x ≡ Some x → piece.y ≡ Some y
    → w ≡ width_of piece.kind piece.dir → h ≡ height_of piece.kind piece.dir → s < 2 → t < 2 → IsMiddle x w s c → IsMiddle y h t d → HasShift piece (shift_at s t)
has_shift piece x y w h s t c d ex ey ew eh ls lt mx my = record {
  small_x = ls;
  small_y = lt;
  cell = cell_at c d;
  on = record { twice_x = x; has_x = ex; middle_x = rw ew at mx; twice_y = y; has_y = ey; middle_y = rw eh at my };
}

first_off : (major : ℕ) (v : Json) (piece : Piece) → IsPiece major v piece → ((shift : Shift) (cell : Cell) → ¬ IsOn piece shift cell) → IsOffGrid major v v
first_off major v piece p none cell at = none at.shift cell (placed_on major v piece at.shift cell p at.placed)

off_grid : (major : ℕ) (first v : Json) (piece : Piece) (shift : Shift) → IsPiece major v piece → SetsShift major first shift
    → ((cell : Cell) → ¬ IsOn piece shift cell) → IsOffGrid major first v
off_grid major first v piece shift p sets none cell at =
    none cell (rw (same_shift major first shift at.shift sets at.sets) (placed_on major v piece at.shift cell p at.placed))

in_cell : (major : ℕ) (first v : Json) (piece : Piece) (shift : Shift) (cell : Cell) → IsPiece major v piece → SetsShift major first shift
    → IsOn piece shift cell → IsInCell major first v cell
in_cell major first v piece shift cell p sets on = record { shift = shift; sets = sets; placed = on_placed major v piece shift cell p on }

is_first : (major : ℕ) (first v : Json) (set : Option Shift) → set ≡ None → IsFirstShift major first v set → v ≡ first
is_first major first v set e h = rw e at h

-- entity 0 sets the shift
pub first_shift : (major : ℕ) (first v : Json) (set : Option Shift) (piece : Piece) (shift : Shift) → set ≡ None
    → IsFirstShift major first v set → IsPiece major v piece → HasShift piece shift → SetsShift major first shift
first_shift major first v set piece shift e h p s =
    subst (λ w. SetsShift major w shift) (is_first major first v set e h) (sets_shift major v piece shift p s)

pub told_first_off : (members : List Member) (major : ℕ) (first : Json) (i : ℕ) (v : Json) (set : Option Shift) (piece : Piece) → set ≡ None → IsFirstShift major first v set
    → IsPiece major v piece → ((shift : Shift) (cell : Cell) → ¬ IsOn piece shift cell) → IsLowest members major first i v (OffGrid i)
told_first_off members major first i v set piece e h p none =
    subst (λ w. IsLowest members major w i v (OffGrid i)) (is_first major first v set e h) (lowest_off members major v i v (right_of major v piece p) (first_off major v piece p none))

pub told_off : (members : List Member) (major : ℕ) (first : Json) (i : ℕ) (v : Json) (piece : Piece) (shift : Shift) → IsPiece major v piece → SetsShift major first shift
    → ((cell : Cell) → ¬ IsOn piece shift cell) → IsLowest members major first i v (OffGrid i)
told_off members major first i v piece shift p s none =
    lowest_off members major first i v (right_of major v piece p) (off_grid major first v piece shift p s none)

pub told_special : (members : List Member) (major : ℕ) (first : Json) (i : ℕ) (v : Json) (piece : Piece) (shift : Shift) (cell : Cell) (member : Member)
    → IsPiece major v piece → SetsShift major first shift → IsOn piece shift cell → IsFirstSpecial members v member → IsLowest members major first i v (Special i member)
told_special members major first i v piece shift cell member p s on special =
    lowest_special members major first i v member (right_of major v piece p) (λ off. off cell (in_cell major first v piece shift cell p s on)) special

pub is_entity : (members : List Member) (major : ℕ) (first v : Json) (piece : Piece) (shift : Shift) (part : Part) → IsPiece major v piece → SetsShift major first shift
    → IsOn piece shift part.cell → part.kind ≡ piece.kind → part.tier ≡ piece.tier → part.dir ≡ piece.dir → IsPlain members v → IsEntity members major first v part
is_entity members major first v piece shift part p s on k t d plain = record {
  has_kind = rw k p.has_kind;
  has_tier = rw t p.has_tier;
  has_dir = rw d p.has_dir;
  in_cell = in_cell major first v piece shift part.cell p s on;
  priority = piece.priority;
  has_priority = p.has_priority;
  plain = plain;
}

has_none : (v : Json) (name : List ℕ) → Lacks v name → ¬ ((m : Json) × HasMember v name m)
has_none v name lacks has = lacks_or_has v name has.0 lacks has.1

preferred_side : (v : Json) (name : List ℕ) (preferred : Option Hand) (hand : Hand) → preferred ≡ Some hand → Prefers v name preferred → HasFamily v Splitters × IsSided v name
preferred_side v name preferred hand e p =
    let h : Prefers v name (Some hand) = rw e at p in
    (h.0, (hand, h.1))

preferred_none : (v : Json) (name : List ℕ) (preferred : Option Hand) → preferred ≡ None → Prefers v name preferred → ¬ (HasFamily v Splitters × IsSided v name)
preferred_none v name preferred e p s =
    let h : Prefers v name None = rw e at p in
    even_or_sided v name (h s.0) s.1

pub plain_layout : (v : Json) (priority : Priority) → Lacks v (codes "control_behavior") → Lacks v (codes "filter") → priority.take ≡ None → priority.give ≡ None → HasPriority v priority → IsPlain special_in_layouts v
plain_layout v priority a b e o p member (inl h) = has_none v _ a h.0
plain_layout v priority a b e o p member (inr (first_fails, inl h)) = has_none v _ b h.0
plain_layout v priority a b e o p member (inr (first_fails, inr (none, inl h))) = preferred_none v (codes "input_priority") priority.take e p.takes h.0
plain_layout v priority a b e o p member (inr (first_fails, inr (none, inr (neither, inl h)))) = preferred_none v (codes "output_priority") priority.give o p.gives h.0
plain_layout v priority a b e o p member (inr (first_fails, inr (none, inr (neither, inr (nothing, h))))) = h

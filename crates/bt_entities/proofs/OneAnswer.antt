-- A root has one right answer.
use Rattle.std.proofs.Common.{◌≡◌, ℕ, suc, ◌/◌, ◌<◌, ◌≤◌, ◌^◌, List, [], ◌∷◌, length, Option, Some, None, refl, ap, ◌∙◌, sym, arith, inl, inr}
use Rattle.std.specs.Prelude.{slice_get, codes, Result, Ok, Err}
use Rattle.std.proofs.lemmas.Bool.{cases_order}
use Rattle.std.proofs.lemmas.Option.{same_Some, slice_get_within}
use Rattle.bt_text.specs.Answers.{UnlessMemory, Answers}
use Rattle.bt_text.proofs.OneAnswer.{answers_of}
use Rattle.bt_json.specs.Json.{Json, no_items, item, list}
use Rattle.bt_json.specs.Stands.{items_of}
use Rattle.bt_parts.specs.declared.hand.Hand.{Hand}
use Rattle.bt_parts.specs.declared.hand.Hand.TheVariants.{Left, Right}
use Rattle.bt_parts.specs.declared.hand.Priority.{Priority}
use Rattle.bt_parts.specs.declared.part.Cell.{Cell}
use Rattle.bt_parts.specs.declared.part.Dir.{Dir}
use Rattle.bt_parts.specs.declared.part.Kind.{Kind}
use Rattle.bt_parts.specs.declared.part.Part.{Part}
use Rattle.bt_parts.specs.declared.part.Tier.{Tier}
use Rattle.bt_entities.specs.declared.blueprint.TheConstants.{MOST_ENTITIES}
use Rattle.bt_entities.specs.declared.fault.EntityFault.{EntityFault}
use Rattle.bt_entities.specs.declared.fault.EntityFault.TheVariants.{NotBlueprint, Book, TooMany, Unsupported, BadMember, OffGrid, Special, Memory}
use Rattle.bt_entities.specs.declared.fault.Member.{Member}
use Rattle.bt_entities.specs.Members.{HasText}
use Rattle.bt_entities.specs.Entities.{IsInCell, hand_text, Prefers, HasPriority, IsSpecial, IsFirst, IsEntity, special_in_designs, special_in_layouts}
use Rattle.bt_entities.specs.Blueprints.{IsVersion, HasMajor, HasEntities, IsBlueprint, AreParts, ArePriorities, IsBlueprintOf, HavePriorities}
use Rattle.bt_entities.specs.Refusals.{HasWrong, IsList, IsNotBlueprint, IsBook, HasTooMany, IsWrong, tested_members, IsFault, number_of_fault, IsLowest, IsFirstOf, IsFirstFault, IsRefused}
use Rattle.bt_entities.specs.Answers.{IsPartsOf, IsReadOf, IsPrioritisedOf}
use Rattle.bt_entities.proofs.Unique.{object_of, same_text, same_member, same_whole, lacks_or_has, same_kind, same_tier, same_dir}
use Rattle.bt_entities.proofs.Placed.{same_place, entity_sound, even_or_sided}
use Rattle.bt_entities.proofs.Whole.{item_at}

same_items : (es fs : List Json) → items_of es ≡ items_of fs → es ≡ fs
same_items [] [] h = refl
same_items [] (f ∷ fs) h = absurd (let e : no_items ≡ item f (items_of fs) = h in cc)
same_items (e ∷ es) [] h = absurd (let e : item e (items_of es) ≡ no_items = h in cc)
same_items (e ∷ es) (f ∷ fs) h =
    let k : item e (items_of es) ≡ item f (items_of fs) = h in
    let head : e ≡ f = cc in
    let tail : items_of es ≡ items_of fs = cc in
    ap (λ x. x ∷ es) head ∙ ap (λ xs. f ∷ xs) (same_items es fs tail)

same_list : (es fs : List Json) → list (items_of es) ≡ list (items_of fs) → es ≡ fs
same_list es fs h = same_items es fs (cc)

same_version : (v : Json) (m n : ℕ) → IsVersion v m → IsVersion v n → m ≡ n
same_version v m n a b = a.3 ∙ ap (λ k. k / 2 ^ 48) (same_whole v a.0 b.0 a.2 b.2) ∙ sym b.3

same_major : (b : Json) (m n : ℕ) → HasMajor b m → HasMajor b n → m ≡ n
same_major b m n x y = elim x [
  | inl none ↦ elim y [
    | inl also ↦ none.1 ∙ sym also.1
    | inr there ↦ absurd (lacks_or_has b (codes "version") there.0 none.0 there.1)
  ]
  | inr here ↦ elim y [
    | inl none ↦ absurd (lacks_or_has b (codes "version") here.0 none.0 here.1)
    | inr there ↦ same_version there.0 m n (rw (same_member b (codes "version") here.0 there.0 here.1 there.1) at here.2) there.2
  ]
]

same_entities : (b : Json) (es fs : List Json) → HasEntities b es → HasEntities b fs → es ≡ fs
same_entities b es fs x y = elim x [
  | inl none ↦ elim y [
    | inl also ↦ none.1 ∙ sym also.1
    | inr there ↦ absurd (lacks_or_has b (codes "entities") _ none.0 there)
  ]
  | inr here ↦ elim y [
    | inl none ↦ absurd (lacks_or_has b (codes "entities") _ none.0 here)
    | inr there ↦ same_list es fs (same_member b (codes "entities") _ _ here there)
  ]
]

-- a root has one blueprint
pub record SameBlueprint (m n : ℕ) (es fs : List Json) : Type 0 where
  pub major : m ≡ n
  pub entities : es ≡ fs

same_blueprint : (root : Json) (m n : ℕ) (es fs : List Json) → IsBlueprint root m es → IsBlueprint root n fs → SameBlueprint m n es fs
same_blueprint root m n es fs a b =
    let e : a.blueprint ≡ b.blueprint = same_member root (codes "blueprint") _ _ a.is_there b.is_there in
    record {
      major = same_major b.blueprint m n (rw e at a.has_major) b.has_major;
      entities = same_entities b.blueprint es fs (rw e at a.has_entities) b.has_entities;
    }

-- an entity is in one cell
one_cell : (major : ℕ) (first v : Json) (c d : Cell) → IsInCell major first v c → IsInCell major first v d → c ≡ d
one_cell major first v c d a b =
    (same_place major v a.shift b.shift c d a.sets.small_x a.sets.small_y b.sets.small_x b.sets.small_y a.placed b.placed).same_cell

abbrev part_at : Kind → Tier → Dir → Cell → Part
part_at kind tier dir cell = record { kind = kind; tier = tier; dir = dir; cell = cell }

-- an entity stands for one part
one_part : (members : List Member) (major : ℕ) (first v : Json) (p q : Part) → IsEntity members major first v p → IsEntity members major first v q → p ≡ q
one_part members major first v p q a b =
    let cell : p.cell ≡ q.cell = one_cell major first v p.cell q.cell a.in_cell b.in_cell in
    ap (λ k. part_at k p.tier p.dir p.cell) (same_kind v p.kind q.kind a.has_kind b.has_kind)
    ∙ ap (λ t. part_at q.kind t p.dir p.cell) (same_tier v p.tier q.tier a.has_tier b.has_tier)
    ∙ ap (λ d. part_at q.kind q.tier d p.cell) (same_dir major v p.dir q.dir a.has_dir b.has_dir)
    ∙ ap (λ c. part_at q.kind q.tier q.dir c) cell

same_lists : {X : Type 0} (xs ys : List X) → length xs ≡ length ys → ((i : ℕ) (x y : X) → slice_get xs i ≡ Some x → slice_get ys i ≡ Some y → x ≡ y) → xs ≡ ys
same_lists [] [] e h = refl
same_lists [] (y ∷ ys) e h = absurd (omega arith)
same_lists (x ∷ xs) [] e h = absurd (omega arith)
same_lists (x ∷ xs) (y ∷ ys) e h =
    ap (λ z. z ∷ xs) (h 0 x y refl refl) ∙ ap (λ zs. y ∷ zs) (same_lists xs ys (omega arith) (λ i a b p q. h (suc i) a b p q))

-- a root is a blueprint of one list of parts
one_list : (members : List Member) (root : Json) (p q : List Part) → IsBlueprintOf members root p → IsBlueprintOf members root q → p ≡ q
one_list members root p q a b =
    let s = same_blueprint root a.major b.major a.entities b.entities a.is_blueprint b.is_blueprint in
    let x : AreParts members b.major b.entities p = rw (← s.major, ← s.entities) a.are_parts in
    same_lists p q (x.same_length ∙ sym b.are_parts.same_length) (λ i one other got_one got_other.
    let lt : i < length b.entities = omega (arith, slice_get_within q i other got_other, b.are_parts.same_length) in
    let v = item_at b.entities i lt in
    let first = item_at b.entities 0 (omega arith) in
    one_part members b.major first.0 v.0 one other (x.each first.0 v.0 one i first.1 v.1 got_one) (b.are_parts.each first.0 v.0 other i first.1 v.1 got_other))

same_hand : (v : Json) (name : List ℕ) (a b : Hand) → HasText v name (hand_text a) → HasText v name (hand_text b) → a ≡ b
same_hand v name Left Left h k = refl
same_hand v name Left Right h k = let e : length (codes "left") ≡ length (codes "right") = ap length (same_text v name _ _ h k) in absurd (omega arith)
same_hand v name Right Left h k = let e : length (codes "right") ≡ length (codes "left") = ap length (same_text v name _ _ h k) in absurd (omega arith)
same_hand v name Right Right h k = refl

-- an entity prefers one side at most
one_preference : (v : Json) (name : List ℕ) (a b : Option Hand) → Prefers v name a → Prefers v name b → a ≡ b
one_preference v name None None h k = refl
one_preference v name None (Some y) h k = absurd (even_or_sided v name (h k.0) (y, k.1))
one_preference v name (Some x) None h k = absurd (even_or_sided v name (k h.0) (x, h.1))
one_preference v name (Some x) (Some y) h k = ap Some (same_hand v name x y h.1 k.1)

abbrev priority_at : Option Hand → Option Hand → Priority
priority_at give take = record { give = give; take = take }

one_priority : (v : Json) (p q : Priority) → HasPriority v p → HasPriority v q → p ≡ q
one_priority v p q a b =
    ap (λ x. priority_at x p.take) (one_preference v (codes "output_priority") p.give q.give a.gives b.gives)
    ∙ ap (λ x. priority_at q.give x) (one_preference v (codes "input_priority") p.take q.take a.takes b.takes)

-- the entities of a root have one list of priorities
one_priorities : (root : Json) (p q : List Priority) → HavePriorities root p → HavePriorities root q → p ≡ q
one_priorities root p q a b =
    let s = same_blueprint root a.major b.major a.entities b.entities a.is_blueprint b.is_blueprint in
    let x : ArePriorities b.entities p = rw (← s.entities) a.are_priorities in
    same_lists p q (x.same_length ∙ sym b.are_priorities.same_length) (λ i one other got_one got_other.
    let lt : i < length b.entities = omega (arith, slice_get_within q i other got_other, b.are_priorities.same_length) in
    let v = item_at b.entities i lt in
    one_priority v.0 one other (x.each v.0 one i v.1 got_one) (b.are_priorities.each v.0 other i v.1 got_other))

not_list : (b : Json) (es : List Json) → HasWrong b (codes "entities") IsList → HasEntities b es → ⊥
not_list b es wrong h = elim h [
  | inl none ↦ lacks_or_has b (codes "entities") wrong.0 none.0 wrong.1
  | inr there ↦ wrong.2 (items_of es, same_member b (codes "entities") wrong.0 _ wrong.1 there)
]

not_version : (b : Json) (major : ℕ) → HasWrong b (codes "version") (λ v. (n : ℕ) × IsVersion v n) → HasMajor b major → ⊥
not_version b major wrong h = elim h [
  | inl none ↦ lacks_or_has b (codes "version") wrong.0 none.0 wrong.1
  | inr there ↦ wrong.2 (major, rw (same_member b (codes "version") wrong.0 there.0 wrong.1 there.1) there.2)
]

not_both : (root : Json) (major : ℕ) (es : List Json) → IsBlueprint root major es → ¬ IsNotBlueprint root
not_both root major es b h = elim h [
  | inl none ↦ none (object_of root (codes "blueprint") b.blueprint b.is_there)
  | inr h ↦ elim h [
    | inl neither ↦ lacks_or_has root (codes "blueprint") b.blueprint neither.0 b.is_there
    | inr h ↦ elim h [
      | inl wrong ↦ wrong.2 (rw (same_member root (codes "blueprint") wrong.0 b.blueprint wrong.1 b.is_there) b.is_object)
      | inr h ↦ elim h [
        | inl wrong ↦ not_list wrong.0 es wrong.2 (rw (same_member root (codes "blueprint") wrong.0 b.blueprint wrong.1 b.is_there) b.has_entities)
        | inr wrong ↦ not_version wrong.0 major wrong.2 (rw (same_member root (codes "blueprint") wrong.0 b.blueprint wrong.1 b.is_there) b.has_major)
      ]
    ]
  ]
]

not_book : (root : Json) (major : ℕ) (es : List Json) → IsBlueprint root major es → ¬ IsBook root
not_book root major es b h = lacks_or_has root (codes "blueprint") b.blueprint h.0 b.is_there

not_many : (root : Json) (major : ℕ) (es : List Json) → IsBlueprint root major es → length es ≤ MOST_ENTITIES → ¬ HasTooMany root
not_many root major es b few h =
    let s = same_blueprint root major h.0 es h.1 b h.2 in
    let e : length es ≡ length h.1 = ap (λ xs. length xs) s.entities in
    absurd (omega (arith, h.3))

not_first : (members : List Member) (root : Json) (parts : List Part) (fault : EntityFault) → IsBlueprintOf members root parts → IsFirstFault members root fault → ⊥
not_first members root parts fault b f =
    let s = same_blueprint root b.major f.major b.entities f.entities b.is_blueprint f.is_blueprint in
    let x : AreParts members f.major f.entities parts = rw (← s.major, ← s.entities) b.are_parts in
    let lt : f.first.index < length parts = omega (arith, slice_get_within f.entities f.first.index f.first.v f.first.is_v, x.same_length) in
    let p = item_at parts f.first.index lt in
    entity_sound members f.major f.first.first f.first.index f.first.v p.0 (x.each f.first.first f.first.v p.0 f.first.index f.first.is_first f.first.is_v p.1) fault f.first.lowest.is_fault

-- a blueprint of parts isn't refused
blueprint_not_refused : (members : List Member) (root : Json) (parts : List Part) (fault : EntityFault) → IsBlueprintOf members root parts → IsRefused members root fault → ⊥
blueprint_not_refused members root parts NotBlueprint b f = not_both root b.major b.entities b.is_blueprint f
blueprint_not_refused members root parts Book b f = not_book root b.major b.entities b.is_blueprint f
blueprint_not_refused members root parts TooMany b f = not_many root b.major b.entities b.is_blueprint b.few f
blueprint_not_refused members root parts other b f = not_first members root parts other b f

same_first : (P : Member → Type 0) (ms : List Member) (a b : Member) → IsFirst P ms a → IsFirst P ms b → a ≡ b
same_first P [] a b x y = absurd x
same_first P (m ∷ ms) a b x y = elim x [
  | inl here ↦ elim y [ inl also ↦ here.1 ∙ sym also.1 | inr later ↦ absurd (later.0 here.0) ]
  | inr later ↦ elim y [ inl here ↦ absurd (later.0 here.0) | inr also ↦ same_first P ms a b later.1 also.1 ]
]

same_number : (members : List Member) (major : ℕ) (first : Json) (i : ℕ) (v : Json) (f g : EntityFault) → IsLowest members major first i v f → IsLowest members major first i v g → number_of_fault f ≡ number_of_fault g
same_number members major first i v f g a b = elim (cases_order (number_of_fault f) (number_of_fault g)) [
  | inl same ↦ same
  | inr other ↦ elim other [ inl lt ↦ absurd (b.no_lower f lt a.is_fault) | inr gt ↦ absurd (a.no_lower g gt b.is_fault) ]
]

-- faults of one entity with one number are one fault
same_fault : (members : List Member) (major : ℕ) (first : Json) (i : ℕ) (v : Json) (f g : EntityFault) → number_of_fault f ≡ number_of_fault g
    → IsFault members major first i v f → IsFault members major first i v g → f ≡ g
same_fault members major first i v (Unsupported at name) (Unsupported at' name') e a b =
    ap (λ k. Unsupported k name) (a.0 ∙ sym b.0) ∙ ap (λ t. Unsupported at' t) (same_text v (codes "name") name name' a.1.0 b.1.0)
same_fault members major first i v (BadMember at member) (BadMember at' member') e a b =
    ap (λ k. BadMember k member) (a.0 ∙ sym b.0) ∙ ap (λ m. BadMember at' m) (same_first (IsWrong major v) tested_members member member' a.1 b.1)
same_fault members major first i v (OffGrid at) (OffGrid at') e a b = ap (λ k. OffGrid k) (a.0 ∙ sym b.0)
same_fault members major first i v (Special at member) (Special at' member') e a b =
    ap (λ k. Special k member) (a.0 ∙ sym b.0) ∙ ap (λ m. Special at' m) (same_first (IsSpecial v) members member member' a.1 b.1)
same_fault members major first i v NotBlueprint g e a b = absurd a
same_fault members major first i v Book g e a b = absurd a
same_fault members major first i v TooMany g e a b = absurd a
same_fault members major first i v Memory g e a b = absurd a
same_fault members major first i v f g e a b = absurd (omega arith)

same_lowest : (members : List Member) (major : ℕ) (first : Json) (i : ℕ) (v : Json) (f g : EntityFault) → IsLowest members major first i v f → IsLowest members major first i v g → f ≡ g
same_lowest members major first i v f g a b = same_fault members major first i v f g (same_number members major first i v f g a b) a.is_fault b.is_fault

-- two first faults are of one entity, and there the same
one_first_of : (members : List Member) (major : ℕ) (entities : List Json) (f g : EntityFault) → IsFirstOf members major entities f → IsFirstOf members major entities g → f ≡ g
one_first_of members major entities f g a b =
    let first : a.first ≡ b.first = same_Some a.first b.first (sym a.is_first ∙ b.is_first) in
    let low : IsLowest members major b.first a.index a.v f = rw (← first) a.lowest in
    let high : IsLowest members major a.first b.index b.v g = rw first b.lowest in
    elim (cases_order a.index b.index) [
      | inl same ↦
          let v : a.v ≡ b.v = same_Some a.v b.v (sym a.is_v ∙ ap (slice_get entities) same ∙ b.is_v) in
          let last : IsLowest members major b.first b.index b.v f = rw (← same, ← v) low in
          same_lowest members major b.first b.index b.v f g last b.lowest
      | inr other ↦ elim other [
        | inl lt ↦ absurd (b.none_before a.index a.v f lt a.is_v low.is_fault)
        | inr gt ↦ absurd (a.none_before b.index b.v g gt b.is_v high.is_fault)
      ]
    ]

one_first : (members : List Member) (root : Json) (f g : EntityFault) → IsFirstFault members root f → IsFirstFault members root g → f ≡ g
one_first members root f g a b =
    let s = same_blueprint root a.major b.major a.entities b.entities a.is_blueprint b.is_blueprint in
    let x : IsFirstOf members b.major b.entities f = rw (← s.major, ← s.entities) a.first in
    one_first_of members b.major b.entities f g x b.first

not_blueprint_or_book : (root : Json) → IsNotBlueprint root → IsBook root → ⊥
not_blueprint_or_book root h book = elim h [
  | inl none ↦ none (object_of root (codes "blueprint_book") book.1.0 book.1.1)
  | inr h ↦ elim h [
    | inl neither ↦ lacks_or_has root (codes "blueprint_book") book.1.0 neither.1 book.1.1
    | inr h ↦ elim h [
      | inl wrong ↦ lacks_or_has root (codes "blueprint") wrong.0 book.0 wrong.1
      | inr h ↦ elim h [
        | inl wrong ↦ lacks_or_has root (codes "blueprint") wrong.0 book.0 wrong.1
        | inr wrong ↦ lacks_or_has root (codes "blueprint") wrong.0 book.0 wrong.1
      ]
    ]
  ]
]

-- a root is refused for one fault
one_fault : (members : List Member) (root : Json) (f g : EntityFault) → IsRefused members root f → IsRefused members root g → f ≡ g
one_fault members root NotBlueprint NotBlueprint a b = refl
one_fault members root NotBlueprint Book a b = absurd (not_blueprint_or_book root a b)
one_fault members root NotBlueprint TooMany a b = absurd (not_both root b.0 b.1 b.2 a)
one_fault members root NotBlueprint other a b = absurd (not_both root b.major b.entities b.is_blueprint a)
one_fault members root Book NotBlueprint a b = absurd (not_blueprint_or_book root b a)
one_fault members root Book Book a b = refl
one_fault members root Book TooMany a b = absurd (not_book root b.0 b.1 b.2 a)
one_fault members root Book other a b = absurd (not_book root b.major b.entities b.is_blueprint a)
one_fault members root TooMany NotBlueprint a b = absurd (not_both root a.0 a.1 a.2 b)
one_fault members root TooMany Book a b = absurd (not_book root a.0 a.1 a.2 b)
one_fault members root TooMany TooMany a b = refl
one_fault members root TooMany other a b = absurd (not_many root b.major b.entities b.is_blueprint b.few a)
one_fault members root other NotBlueprint a b = absurd (not_both root a.major a.entities a.is_blueprint b)
one_fault members root other Book a b = absurd (not_book root a.major a.entities a.is_blueprint b)
one_fault members root other TooMany a b = absurd (not_many root a.major a.entities a.is_blueprint a.few b)
one_fault members root f g a b = one_first members root f g a b

-- a root has one right answer
pub one_parts : (root : Json) (a b : Result (List Part) EntityFault) → IsPartsOf root a → IsPartsOf root b → a ≡ b
one_parts root (Ok p) (Ok q) a b = ap Ok (one_list special_in_layouts root p q a.0 b.0)
one_parts root (Ok p) (Err g) a b = absurd (blueprint_not_refused special_in_layouts root p g a.0 b)
one_parts root (Err f) (Ok q) a b = absurd (blueprint_not_refused special_in_layouts root q f b.0 a)
one_parts root (Err f) (Err g) a b = ap Err (one_fault special_in_layouts root f g a b)

pub parts_answers : (root : Json) (told : Result (List Part) EntityFault) → UnlessMemory Memory (IsPartsOf root) told → Answers Memory (IsPartsOf root) told
parts_answers root told right = answers_of Memory (IsPartsOf root) (one_parts root) told right

-- what is read with priorities is read of the parts alone
pub parts_alone : (root : Json) (read : List Part × List Priority) → IsReadOf special_in_layouts root (Ok read) → IsPartsOf root (Ok read.0)
parts_alone root read h = (h.0, h.2)

abbrev both_of : List Part → List Priority → List Part × List Priority
both_of parts priorities = (parts, priorities)

-- a root has one right answer with priorities
pub one_reading : (root : Json) (a b : Result (List Part × List Priority) EntityFault) → IsPrioritisedOf root a → IsPrioritisedOf root b → a ≡ b
one_reading root (Ok p) (Ok q) a b =
    ap (λ x. Ok (both_of x p.1)) (one_list special_in_designs root p.0 q.0 a.0 b.0)
    ∙ ap (λ x. Ok (both_of q.0 x)) (one_priorities root p.1 q.1 a.1 b.1)
one_reading root (Ok p) (Err g) a b = absurd (blueprint_not_refused special_in_designs root p.0 g a.0 b)
one_reading root (Err f) (Ok q) a b = absurd (blueprint_not_refused special_in_designs root q.0 f b.0 a)
one_reading root (Err f) (Err g) a b = ap Err (one_fault special_in_designs root f g a b)

pub priorities_answer : (root : Json) (told : Result (List Part × List Priority) EntityFault) → UnlessMemory Memory (IsPrioritisedOf root) told → Answers Memory (IsPrioritisedOf root) told
priorities_answer root told right = answers_of Memory (IsPrioritisedOf root) (one_reading root) told right

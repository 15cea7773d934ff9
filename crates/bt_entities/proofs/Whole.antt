-- The entities of a blueprint, one after another.
use Rattle.std.proofs.Common.{◌≡◌, ℕ, zero, suc, ◌+◌, ◌<◌, ◌≤◌, List, [], ◌∷◌, ◌++◌, map, length, Option, Some, None, refl, ap, ◌∙◌, sym, arith, inl, inr, ◌⊎◌, All}
use Rattle.std.specs.Prelude.{slice_get, option_map, MatchOption, Result, Ok, Err}
use Rattle.std.proofs.lemmas.Option.{slice_get-map, slice_get_within, none-some, same_Some}
use Rattle.std.proofs.lemmas.List.{length-append}
use Rattle.std.proofs.lemmas.List.Elements.{All-nil, All-cons}
use Rattle.bt_text.specs.Answers.{UnlessMemory}
use Rattle.bt_json.specs.Json.{Json}
use Rattle.bt_json.specs.Stands.{json_of}
use Rattle.bt_json.specs.declared.tree.Tree.{Tree}
use Rattle.bt_parts.specs.declared.hand.Priority.{Priority}
use Rattle.bt_parts.specs.declared.part.Part.{Part}
use Rattle.bt_parts.specs.Cells.{IsInRange}
use Rattle.bt_parts.specs.Layouts.{AreInRange}
use Rattle.bt_entities.specs.declared.blueprint.TheConstants.{MOST_ENTITIES}
use Rattle.bt_entities.specs.declared.shift.Shift.{Shift}
use Rattle.bt_entities.specs.declared.fault.EntityFault.{EntityFault}
use Rattle.bt_entities.specs.declared.fault.EntityFault.TheVariants.{NotBlueprint, Book, TooMany, Memory}
use Rattle.bt_entities.specs.declared.fault.Member.{Member}
use Rattle.bt_entities.specs.Entities.{SetsShift, HasPriority, IsEntity}
use Rattle.bt_entities.specs.Blueprints.{HasEntity, IsBlueprint, AreParts, ArePriorities, IsBlueprintOf}
use Rattle.bt_entities.specs.Refusals.{IsLowest, IsFirstOf, IsFirstFault, IsRefused}
use Rattle.bt_entities.specs.Answers.{IsReadOf}
use Rattle.bt_entities.specs.inner.Pieces.{IsFirstShift, IsEntityRead, AreRead}
use Rattle.bt_entities.proofs.Placed.{entity_sound, entity_in_range}

-- so many entities were read, each to its part and its priorities, and the shift is set from the first on
pub record HasRead (members : List Member) (major : ℕ) (entities : List Json) (n : ℕ) (set : Option Shift) (parts : List Part) (priorities : List Priority) : Type 0 where
  pub count : length parts ≡ n
  pub shifted : (first : Json) → HasEntity entities 0 first → MatchOption set (n ≡ 0) (SetsShift major first)
  pub each : (first v : Json) (part : Part) (i : ℕ) → HasEntity entities 0 first → HasEntity entities i v
      → slice_get parts i ≡ Some part → IsEntity members major first v part
  pub priority_count : length priorities ≡ n
  pub each_priority : (v : Json) (priority : Priority) (i : ℕ) → HasEntity entities i v → slice_get priorities i ≡ Some priority → HasPriority v priority

pub read_none : (members : List Member) (major : ℕ) (entities : List Json) → HasRead members major entities 0 None [] []
read_none members major entities = record {
  count = refl;
  shifted = λ first start. refl;
  each = λ first v part i start at got. absurd (none-some part got);
  priority_count = refl;
  each_priority = λ v priority i at got. absurd (none-some priority got);
}

-- the shift at the next entity
pub shift_at_next : (members : List Member) (major : ℕ) (entities : List Json) (n : ℕ) (set : Option Shift) (parts : List Part) (priorities : List Priority) (first v : Json)
    → HasRead members major entities n set parts priorities → HasEntity entities 0 first → HasEntity entities n v → IsFirstShift major first v set
shift_at_next members major entities n None parts priorities first v r start at = same_Some v first (sym at ∙ ap (slice_get entities) (r.shifted first start) ∙ start)
shift_at_next members major entities n (Some shift) parts priorities first v r start at = r.shifted first start

at_end : {X : Type 0} (xs : List X) (x y : X) (i : ℕ) → slice_get (xs ++ x ∷ []) i ≡ Some y → (slice_get xs i ≡ Some y) ⊎ ((i ≡ length xs) × (x ≡ y))
at_end [] x y zero h = inr (refl, same_Some x y h)
at_end [] x y (suc i) h = absurd (none-some y h)
at_end (w ∷ xs) x y zero h = inl h
at_end (w ∷ xs) x y (suc i) h = elim (at_end xs x y i h) [ inl old ↦ inl old | inr new ↦ inr (ap suc new.0, new.1) ]

-- the list has an item at each place within it
pub item_at : {X : Type 0} (xs : List X) (i : ℕ) → i < length xs → (x : X) × (slice_get xs i ≡ Some x)
item_at [] i lt = absurd (omega arith)
item_at (x ∷ xs) zero lt = (x, refl)
item_at (x ∷ xs) (suc i) lt = item_at xs i (omega arith)

-- one more entity
pub read_more : (members : List Member) (major : ℕ) (entities : List Json) (n : ℕ) (set : Option Shift) (parts : List Part) (priorities : List Priority) (v : Json) (shift : Shift) (part : Part) (priority : Priority)
    → HasEntity entities n v → ((first : Json) → HasEntity entities 0 first → SetsShift major first shift × IsEntity members major first v part × HasPriority v priority)
    → HasRead members major entities n set parts priorities → HasRead members major entities (n + 1) (Some shift) (parts ++ part ∷ []) (priorities ++ priority ∷ [])
read_more members major entities n set parts priorities v shift part priority at is r = record {
  count = omega (arith, length-append parts (part ∷ []), r.count);
  shifted = λ first start. (is first start).0;
  each = λ first w p i start got have. elim (at_end parts part p i have) [
    | inl old ↦ r.each first w p i start got old
    | inr new ↦
        let here : slice_get entities n ≡ Some w = ap (slice_get entities) (sym (new.0 ∙ r.count)) ∙ got in
        let e : v ≡ w = same_Some v w (sym at ∙ here) in
        rw (← e, ← new.1) (is first start).1
  ];
  priority_count = omega (arith, length-append priorities (priority ∷ []), r.priority_count);
  each_priority = λ w p i got have. elim (at_end priorities priority p i have) [
    | inl old ↦ r.each_priority w p i got old
    | inr new ↦
        let here : slice_get entities n ≡ Some w = ap (slice_get entities) (sym (new.0 ∙ r.priority_count)) ∙ got in
        let e : v ≡ w = same_Some v w (sym at ∙ here) in
        let first = item_at entities 0 (omega (arith, slice_get_within entities n v at)) in
        rw (← e, ← new.1) (is first.0 first.1).2
  ];
}

pub all_read : (members : List Member) (major : ℕ) (entities : List Json) (n : ℕ) (set : Option Shift) (parts : List Part) (priorities : List Priority) → n ≡ length entities
    → HasRead members major entities n set parts priorities → AreParts members major entities parts × ArePriorities entities priorities
all_read members major entities n set parts priorities e r =
    (record { same_length = r.count ∙ e; each = r.each }, record { same_length = r.priority_count ∙ e; each = r.each_priority })

-- the first entity that isn't read has the first fault
first_of : (members : List Member) (major : ℕ) (entities : List Json) (n : ℕ) (set : Option Shift) (parts : List Part) (priorities : List Priority) (first v : Json) (fault : EntityFault)
    → HasEntity entities 0 first → HasEntity entities n v → IsLowest members major first n v fault → HasRead members major entities n set parts priorities
    → IsFirstOf members major entities fault
first_of members major entities n set parts priorities first v fault start at low r = record {
  first = first;
  is_first = start;
  index = n;
  v = v;
  is_v = at;
  lowest = low;
  none_before = λ i w other lt got.
      let p = item_at parts i (omega (arith, r.count)) in
      entity_sound members major first i w p.0 (r.each first w p.0 i start got p.1) other;
}

pub entity_at : (trees : List Tree) (i : ℕ) (t : Tree) → slice_get trees i ≡ Some t → HasEntity (map json_of trees) i (json_of t)
entity_at trees i t e = slice_get-map json_of trees i ∙ ap (option_map json_of) e

-- what is told where an entity isn't read
pub told_first : (members : List Member) (major : ℕ) (entities : List Json) (n : ℕ) (set : Option Shift) (parts : List Part) (priorities : List Priority) (v : Json) (fault : EntityFault)
    → HasEntity entities n v → HasRead members major entities n set parts priorities
    → ((first : Json) → IsFirstShift major first v set → UnlessMemory Memory (IsEntityRead members major first n v) (Err fault))
    → UnlessMemory Memory (AreRead members major entities) (Err fault)
told_first members major entities n set parts priorities v fault at r told =
    let first = item_at entities 0 (omega (arith, slice_get_within entities n v at)) in
    elim (told first.0 (shift_at_next members major entities n set parts priorities first.0 v r first.1 at)) [
      | inl low ↦ inl (first_of members major entities n set parts priorities first.0 v fault first.1 at low r)
      | inr memory ↦ inr memory
    ]

all_from : {X : Type 0} (P : X → Type 0) (xs : List X) → ((i : ℕ) (x : X) → slice_get xs i ≡ Some x → P x) → All P xs
all_from P [] h = All-nil P
all_from P (x ∷ xs) h = All-cons P x xs (h 0 x refl) (all_from P xs (λ i y e. h (suc i) y e))

-- each part of a blueprint is in range
pub all_in_range : (members : List Member) (root : Json) (parts : List Part) → IsBlueprintOf members root parts → AreInRange parts
all_in_range members root parts b = all_from (λ part. IsInRange part.cell) parts (λ i part got.
    let lt : i < length b.entities = omega (arith, slice_get_within parts i part got, b.are_parts.same_length) in
    let v = item_at b.entities i lt in
    let first = item_at b.entities 0 (omega arith) in
    entity_in_range members b.major first.0 v.0 part (b.are_parts.each first.0 v.0 part i first.1 v.1 got))

-- the first fault refuses the root
refused : (members : List Member) (root : Json) (fault : EntityFault) → IsFirstFault members root fault → IsRefused members root fault
refused members root NotBlueprint f = absurd f.first.lowest.is_fault
refused members root Book f = absurd f.first.lowest.is_fault
refused members root TooMany f = absurd f.first.lowest.is_fault
refused members root other f = f

-- what is told of the entities is told of the root
pub told_of_root : (members : List Member) (root : Json) (major : ℕ) (entities : List Json) → IsBlueprint root major entities → length entities ≤ MOST_ENTITIES
    → (told : Result (List Part × List Priority) EntityFault) → UnlessMemory Memory (AreRead members major entities) told → UnlessMemory Memory (IsReadOf members root) told
told_of_root members root major entities is few (Ok read) a =
    let b : IsBlueprintOf members root read.0 = record { major = major; entities = entities; is_blueprint = is; few = few; are_parts = a.0 } in
    (b, record { major = major; entities = entities; is_blueprint = is; are_priorities = a.1 }, all_in_range members root read.0 b)
told_of_root members root major entities is few (Err fault) (inl f) =
    inl (refused members root fault (record { major = major; entities = entities; is_blueprint = is; few = few; first = f }))
told_of_root members root major entities is few (Err fault) (inr memory) = inr memory

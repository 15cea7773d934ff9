-- Classes of positions whose terms are the same up to the sign: what is held once of a class gives the slots of all its
-- members.
use Rattle.std.specs.Prelude.{◌≡◌, ◌<◌, ◌+◌, ◌==◌, Bool, true, false, List, ◌∷◌, length, Option, Some, None, slice_index_or, if◌then◌else◌, ℕ, []}
use Rattle.bt_frac.specs.Ratio.{negated}
use Rattle.bt_linear_forms.specs.Lines.{one, Terms, signed_terms}
use Rattle.bt_pivot.specs.SolvedForms.{Slots, slot_at}
use Rattle.bt_pivot.specs.declared.basis.Member.{Member}

-- whether one of two is told and the other isn't
abbrev pub differ : Bool → Bool → Bool
differ false b = b
differ true false = true
differ true true = false

-- the member that a position is
abbrev pub member_at : List Member → ℕ → Member
member_at members position = slice_index_or members position (record { class = 0; negated = false })

-- a position that a list has for a class
abbrev pub position_at : List ℕ → ℕ → ℕ
position_at positions class = slice_index_or positions class 0

-- the terms of a member of this sign: the line of its class, or the class's member that is outside alone
abbrev pub class_terms : List Member → Option Terms → ℕ → Bool → Terms
class_terms members (Some terms) outside negated = signed_terms negated terms
class_terms members None outside negated = signed_terms (differ negated (member_at members outside).negated) ((outside, one) ∷ [])

-- whether the position is the one outside, where its class has no line
abbrev pub is_outside : Option Terms → ℕ → ℕ → Bool
is_outside (Some terms) outside position = false
is_outside None outside position = outside == position

-- the slot of a position, by the line of its class or by the class's member that is outside
abbrev pub slot_by : List Member → Option Terms → ℕ → ℕ → Option Terms
slot_by members line outside position =
    if is_outside line outside position then None else Some (class_terms members line outside (member_at members position).negated)

abbrev pub slot_of : List Member → Slots → List ℕ → ℕ → Option Terms
slot_of members lines outside position =
    slot_by members (slot_at lines (member_at members position).class) (position_at outside (member_at members position).class) position

-- what a slot is, at this position and at so many after it
abbrev pub slots_from : (ℕ → Option Terms) → ℕ → List Member → Slots
slots_from slot position [] = []
slots_from slot position (member ∷ members) = slot position ∷ slots_from slot (position + 1) members

-- the slots of all positions
abbrev pub slots_of : List Member → Slots → List ℕ → Slots
slots_of members lines outside = slots_from (slot_of members lines outside) 0 members

-- each position is in a class; a class has a first member, whose sign counts, and a member that is outside where the
-- class has no line
pub record AreClasses (members : List Member) (firsts : List ℕ) (lines : Slots) (outside : List ℕ) : Type 0 where
  pub lines_many : length lines ≡ length firsts
  pub outside_many : length outside ≡ length firsts
  pub within : (position : ℕ) → position < length members → (member_at members position).class < length firsts
  pub first_within : (class : ℕ) → class < length firsts → position_at firsts class < length members
  pub first_is : (class : ℕ) → class < length firsts → member_at members (position_at firsts class) ≡ record { class = class; negated = false }
  pub outside_within : (class : ℕ) → class < length firsts → position_at outside class < length members
  pub outside_is : (class : ℕ) → class < length firsts → (member_at members (position_at outside class)).class ≡ class

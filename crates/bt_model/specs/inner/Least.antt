-- The least number that has a property, where there is one, and the lines of some of a list.
use Rattle.std.specs.Prelude.{◌≡◌, ℕ, ◌<◌, ◌⊎◌, max, min, List, slice_get, Option, Some, None, ⊤}
use Rattle.bt_model.specs.RequestFaults.{IsLeast, HasNone}

-- the least number that has P, or None where none has
abbrev pub IsLeastIfAny : (ℕ → Type 0) → Option ℕ → Type 0
IsLeastIfAny P None = HasNone P
IsLeastIfAny P (Some n) = IsLeast P n

-- the lesser of two numbers, where there are two
abbrev pub lesser : Option ℕ → Option ℕ → Option ℕ
lesser None other = other
lesser (Some m) None = Some m
lesser (Some m) (Some n) = Some (min m n)

-- the line comes before this one, or there is no such
abbrev pub MayPrecede : ℕ → Option ℕ → Type 0
MayPrecede line None = ⊤
MayPrecede line (Some least) = line < least

-- the later line of the one at this place and of an earlier one of these with which it clashes
pub record IsLaterHere {X : Type 0} (Clash : X → X → Type 0) (line_of : X → ℕ) (xs : List X) (place limit line : ℕ) : Type 0 where
  pub first_place : ℕ
  pub apart : first_place < limit
  pub one : X
  pub is_one : slice_get xs first_place ≡ Some one
  pub other : X
  pub is_other : slice_get xs place ≡ Some other
  pub clash : Clash one other
  pub line_is : line ≡ max (line_of one) (line_of other)

-- the line of the one at this place, where it is bad
abbrev pub IsBadHere : {X : Type 0} → (X → Type 0) → (X → ℕ) → List X → ℕ → ℕ → Type 0
IsBadHere {X} IsBad line_of xs place line = (one : X) × (slice_get xs place ≡ Some one) × IsBad one × (line ≡ line_of one)

-- a line that is refused by the one at this place: it is bad, or clashes with an earlier one
abbrev pub IsRefusedHere : {X : Type 0} → (X → Type 0) → (X → X → Type 0) → (X → ℕ) → List X → ℕ → ℕ → Type 0
IsRefusedHere IsBad Clash line_of xs place line = IsBadHere IsBad line_of xs place line
    ⊎ IsLaterHere Clash line_of xs place place line

-- a line that is refused by one before this place
abbrev pub IsRefusedBelow : {X : Type 0} → (X → Type 0) → (X → X → Type 0) → (X → ℕ) → List X → ℕ → ℕ → Type 0
IsRefusedBelow IsBad Clash line_of xs limit line = (place : ℕ) × (place < limit)
    × IsRefusedHere IsBad Clash line_of xs place line

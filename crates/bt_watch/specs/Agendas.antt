-- Places that are to be dealt with.
use Rattle.std.specs.Prelude.{◌≡◌, ◌≢◌, ◌⊎◌, ◌↔◌, ◌≤◌, ◌<◌, ℕ, Bool, true, false, List, Option, Some, None, Contains, length, slice_index_or}
use Rattle.std.specs.List.{filter, range_with_len}

-- the places that are marked, in ascending order
abbrev pub places_of : List Bool → List ℕ
places_of marks = filter (λ place. slice_index_or marks place false) (range_with_len 0 (length marks))

-- all places that are marked are before this one
pub record AreBefore (marks : List Bool) (end : ℕ) : Type 0 where
  pub within : end ≤ length marks
  pub before : (k : ℕ) → slice_index_or marks k false ≡ true → k < end

-- none is marked
abbrev pub NoneMarked : List Bool → Type 0
NoneMarked marks = (k : ℕ) → slice_index_or marks k false ≡ true → ⊥

-- one place more
abbrev pub Adds : List ℕ → ℕ → List ℕ → Type 0
Adds old place new = (k : ℕ) → Contains new k ↔ (Contains old k ⊎ (k ≡ place))

-- a place of those that none of them is beyond, or there is none
abbrev pub IsGreatest : List ℕ → Option ℕ → Type 0
IsGreatest places (Some place) = Contains places place × ((k : ℕ) → Contains places k → k ≤ place)
IsGreatest places None = (k : ℕ) → Contains places k → ⊥

-- the greatest place has gone
abbrev pub Takes : List ℕ → Option ℕ → List ℕ → Type 0
Takes old (Some place) new = IsGreatest old (Some place) × ((k : ℕ) → Contains new k ↔ (Contains old k × (k ≢ place)))
Takes old None new = IsGreatest old None

-- one of the places isn't before this one
abbrev pub Reaches : List ℕ → ℕ → Type 0
Reaches places least = (k : ℕ) × Contains places k × (least ≤ k)

-- Marking the steps that are needed, from the last one back.
use Rattle.std.specs.Prelude.{◌≡◌, ◌⊎◌, ℕ, ◌+◌, ◌-◌, ◌<◌, ◌≤◌, Bool, true, false, List, Contains, length, slice_index_or, slice_set}
use Rattle.bt_log.specs.Logs.{LogParts}
use Rattle.bt_log.specs.Trimming.{Names}

-- the place has a mark
abbrev pub IsMarked : List Bool → ℕ → Type 0
IsMarked marks place = slice_index_or marks place false ≡ true

-- the last place was marked, where there is one
abbrev pub MarksLast : List Bool → List Bool → Type 0
MarksLast old new = new ≡ slice_set old (length old - 1) true

-- those of the first so many steps that the hints name were marked, and no others
pub record MarksNamed (first : ℕ) (hints : List ℕ) (place : ℕ) (old new : List Bool) : Type 0 where
  pub count : length new ≡ length old
  pub grows : (k : ℕ) → IsMarked old k → IsMarked new k
  pub all : (k : ℕ) → k < place → Contains hints (first + k) → IsMarked new k
  pub only : (k : ℕ) → IsMarked new k → IsMarked old k ⊎ ((k < place) × Contains hints (first + k))

-- where the step at the place is marked, the earlier ones that it names were marked, and no others
pub record MarksOf (log : LogParts) (place : ℕ) (old new : List Bool) : Type 0 where
  pub count : length new ≡ length old
  pub grows : (k : ℕ) → IsMarked old k → IsMarked new k
  pub all : IsMarked old place → (k : ℕ) → k < place → Names log place k → IsMarked new k
  pub only : (k : ℕ) → IsMarked new k → IsMarked old k ⊎ (IsMarked old place × (k < place) × Names log place k)

-- a marked later step names the step at the place
pub record IsAsked (log : LogParts) (marks : List Bool) (place : ℕ) : Type 0 where
  pub later : ℕ
  pub after : place < later
  pub inside : later < length log.steps
  pub marked : IsMarked marks later
  pub named : Names log later place

-- the last step is marked; the earlier ones that a marked one from this place on names are; and a marked one is the
-- last or is named by a marked later one
pub record AreMarked (log : LogParts) (from : ℕ) (marks : List Bool) : Type 0 where
  pub count : length marks ≡ length log.steps
  pub last : 0 < length log.steps → IsMarked marks (length log.steps - 1)
  pub closed : (place : ℕ) → from ≤ place → place < length log.steps → IsMarked marks place → (k : ℕ) → k < place → Names log place k → IsMarked marks k
  pub needed : (place : ℕ) → IsMarked marks place → (place + 1 ≡ length log.steps) ⊎ IsAsked log marks place

-- The steps that are left, and their places among them.
use Rattle.std.specs.Prelude.{◌≡◌, ◌⊎◌, ℕ, ◌+◌, ◌-◌, ◌<◌, List, All, AllPairs, Bool, Contains, Result, Ok, Err, [], ◌∷◌, ◌++◌, length, slice_index}
use Rattle.std.specs.declared.alloc.AllocError.{AllocError}
use Rattle.bt_log.specs.Logs.{LogParts, Step}
use Rattle.bt_log.specs.Trimming.{IsRenumbered, Names}
use Rattle.bt_log.specs.inner.Marking.{IsMarked}
use Rattle.bt_log.specs.declared.needed.Kept.{Kept}

-- the places that have marks, in their order
pub record AreThose (marks : List Bool) (places : List ℕ) : Type 0 where
  pub in_order : AllPairs (λ one other. one < other) places
  pub all : (place : ℕ) → IsMarked marks place → Contains places place
  pub only : All (IsMarked marks) places

-- each number stands at the place that it is the number of
abbrev pub AreNumbers : List ℕ → List ℕ → Type 0
AreNumbers places numbers = (number : ℕ) → number < length places → slice_index numbers (slice_index places number) ≡ number

-- a later step that is left names the step at the place
pub record IsWanted (log : LogParts) (places : List ℕ) (place : ℕ) : Type 0 where
  pub later : ℕ
  pub after : place < later
  pub left : Contains places later
  pub named : Names log later place

-- these are places of steps, in their order: the last; of a step that is left all earlier ones that it names; and each
-- but the last is named by a later one that is left
pub record AreNeeded (log : LogParts) (places : List ℕ) : Type 0 where
  pub in_order : AllPairs (λ one other. one < other) places
  pub inside : All (λ place. place < length log.steps) places
  pub last : 0 < length log.steps → Contains places (length log.steps - 1)
  pub closed : (place : ℕ) → Contains places place → (k : ℕ) → k < place → Names log place k → Contains places k
  pub needed : (place : ℕ) → Contains places place → (place + 1 ≡ length log.steps) ⊎ IsWanted log places place

-- the places are in their order, and the numbers are those of the places
pub record IsNumbered (kept : Kept) : Type 0 where
  pub in_order : AllPairs (λ one other. one < other) kept.places.items
  pub inside : All (λ place. place < length kept.numbers.items) kept.places.items
  pub numbers : AreNumbers kept.places.items kept.numbers.items

-- the steps are those that are needed
pub record IsKept (log : LogParts) (kept : Kept) : Type 0 where
  pub needed : AreNeeded log kept.places.items
  pub count : length kept.numbers.items ≡ length log.steps
  pub numbered : AreNumbers kept.places.items kept.numbers.items

-- where all went well, the step was added, renumbered
abbrev pub AddsAgain : ℕ → List ℕ → ℕ → Step → LogParts → LogParts → Result (Unit {0}) AllocError → Type 0
AddsAgain first kept place step old new (Ok done) =
    (again : Step) × IsRenumbered first kept place step again × (new ≡ record old { steps = old.steps ++ again ∷ [] })
AddsAgain first kept place step old new (Err e) = Unit {0}

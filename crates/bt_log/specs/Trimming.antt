-- Logs of which the steps are left out that the last one doesn't need.
use Rattle.std.specs.Prelude.{◌≡◌, ◌⊎◌, ℕ, ◌+◌, ◌-◌, ◌<◌, ◌≤◌, List, [], AllPairs, Contains, length, slice_index, slice_index_or}
use Rattle.std.specs.List.{AllZip}
use Rattle.bt_cnf.specs.Formulas.{FormulaParts}
use Rattle.bt_log.specs.Logs.{Step, Lemma, Learnt, LogParts}

-- the step at a place
abbrev pub step_at : List Step → ℕ → Step
step_at steps place = slice_index_or steps place (Lemma [] [])

-- the hints of a step
abbrev pub hints_of : Step → List ℕ
hints_of (Lemma lits weights) = []
hints_of (Learnt lits hints) = hints

-- the step at the one place names the clause of the step at the other by a hint
abbrev pub Names : LogParts → ℕ → ℕ → Type 0
Names log place other = Contains (hints_of (step_at log.steps place)) (log.first + other)

-- a hint of an earlier step: it is one of those that are left, and the new hint names it by its place among them
pub record IsMoved (first : ℕ) (kept : List ℕ) (place hint again : ℕ) : Type 0 where
  pub number : ℕ
  pub left : number < length kept
  pub named : hint ≡ first + slice_index kept number
  pub earlier : slice_index kept number < place
  pub moved : again ≡ first + number

-- a hint of a clause of the formula, or of none that comes before the step, stays
pub record Stays (first place hint again : ℕ) : Type 0 where
  pub outside : (hint < first) ⊎ (first + place ≤ hint)
  pub same : again ≡ hint

-- the new hint of the step at a place names the same clause, where the steps at these places are left
abbrev pub IsRenamed : ℕ → List ℕ → ℕ → ℕ → ℕ → Type 0
IsRenamed first kept place hint again = IsMoved first kept place hint again ⊎ Stays first place hint again

-- the step is the same but for its hints, which name the same clauses
abbrev pub IsRenumbered : ℕ → List ℕ → ℕ → Step → Step → Type 0
IsRenumbered first kept place (Lemma lits weights) new = new ≡ Lemma lits weights
IsRenumbered first kept place (Learnt lits hints) new = (again : List ℕ) × (new ≡ Learnt lits again) × AllZip (IsRenamed first kept place) hints again

-- the step is the one of the log at this place, renumbered
pub record IsLeft (log : LogParts) (kept : List ℕ) (place : ℕ) (step : Step) : Type 0 where
  pub inside : place < length log.steps
  pub renumbered : IsRenumbered log.first kept place (step_at log.steps place) step

-- a later step names the one at this place by a hint
pub record IsNeeded (log : LogParts) (place : ℕ) : Type 0 where
  pub later : ℕ
  pub after : place < later
  pub inside : later < length log.steps
  pub named : Names log later place

-- each step but the last is needed
abbrev pub IsTight : LogParts → Type 0
IsTight log = (place : ℕ) → place + 1 < length log.steps → IsNeeded log place

-- the log's steps are numbered on from all clauses of the formula, and each of them but the last is needed
pub record IsTightOver (f : FormulaParts) (log : LogParts) : Type 0 where
  pub first : log.first ≡ length f.clauses
  pub tight : IsTight log

-- the steps at some places are left, in their order and renumbered; the last is among them, and each but that is needed
pub record IsTrimmed (old new : LogParts) : Type 0 where
  pub first : new.first ≡ old.first
  pub kept : List ℕ
  pub in_order : AllPairs (λ one other. one < other) kept
  pub left : AllZip (IsLeft old kept) kept new.steps
  pub last : 0 < length old.steps → Contains kept (length old.steps - 1)
  pub tight : IsTight new

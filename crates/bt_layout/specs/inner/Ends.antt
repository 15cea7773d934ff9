-- How a search for a layout ends.
use Rattle.std.specs.Prelude.{◌≡◌, ℕ, ◌≤◌, List, length, AllPairs}
use Rattle.bt_model.specs.Requests.{LayoutRequest}
use Rattle.bt_log.specs.Logs.{LogParts, Step}
use Rattle.bt_sat.specs.declared.answer.Answer.{Answer}
use Rattle.bt_sat.specs.declared.answer.Answer.TheVariants.{Model, Refuted, Spent}
use Rattle.bt_place.specs.PlaceFormula.{place_formula}
use Rattle.bt_model.specs.Laying.{Lays}
use Rattle.bt_place.specs.Solutions.{ComesAbove, IsSolution}
use Rattle.bt_theory.specs.Outcomes.{IsRefutation, IsUsedUp}
use Rattle.bt_log.specs.Trimming.{IsTightOver, IsTrimmed}
use Rattle.bt_layout.specs.Layouts.{HasNoLayout}
use Rattle.bt_grids.specs.declared.outcome.Layout.{Layout}
use Rattle.bt_grids.specs.declared.outcome.Layout.TheVariants as layout

-- with a model of the placement formula; with a log that refutes it; or with a log that has so many steps, where one
-- more is needed
abbrev pub EndsWith : LayoutRequest → ℕ → List Step → Answer → Type 0
EndsWith r learnt steps (Model model) = IsSolution r model.items
EndsWith r learnt steps Refuted = HasNoLayout r × IsRefutation (place_formula r) steps × (length steps ≤ learnt)
EndsWith r learnt steps Spent = IsUsedUp (place_formula r) learnt steps

-- what a search of the placement formula comes to: parts that lay the request, in ascending order of y and then x; or a
-- log that refutes it, of at most so many steps, each but the last needed; or a log that has so many steps, where one
-- more is needed
abbrev pub IsSought : LayoutRequest → ℕ → Layout → Type 0
IsSought r learnt (layout.Found parts) = Lays parts.items r × AllPairs ComesAbove parts.items
IsSought r learnt (layout.Nowhere log) = HasNoLayout r × IsRefutation (place_formula r) log.steps × (length log.steps ≤ learnt) × IsTightOver (place_formula r) log
IsSought r learnt (layout.Spent log) = IsUsedUp (place_formula r) learnt log.steps

-- and with no more steps than may be taken
pub record EndsWithin (r : LayoutRequest) (learnt : ℕ) (steps : List Step) (answer : Answer) : Type 0 where
  pub ends : EndsWith r learnt steps answer
  pub few : length steps ≤ learnt

-- the log is over the clauses of the placement formula
abbrev pub IsOver : LayoutRequest → LogParts → Type 0
IsOver r log = log.first ≡ length (place_formula r).clauses

-- the log is told, without the steps that its last one doesn't need
abbrev pub IsTrimmedTo : LogParts → Layout → Type 0
IsTrimmedTo log (layout.Nowhere left) = IsTrimmed log left
IsTrimmedTo log other = ⊥

-- What a search holds beside its choosers.
use Rattle.std.specs.Prelude.{◌≡◌, Bool, false, List, Option, None, Some, length, map}
use Rattle.bt_frac.specs.Ratio.{Ratio}
use Rattle.bt_cnf.specs.declared.literal.Lit.{Lit}
use Rattle.bt_log.specs.Logs.{Lemma}
use Rattle.bt_sat.specs.Solving.{SolverParts, Status, Searches, KeepsModel, EndsRefuted, EndsSpent, LacksMemory}
use Rattle.bt_sat.specs.declared.progress.Progress.{Progress}
use Rattle.bt_sat.specs.declared.answer.Answer.{Answer}
use Rattle.bt_sat.specs.declared.answer.Assumed.{Assumed}
use Rattle.bt_sat.specs.declared.kernel.Stage.{Stage}
use Rattle.bt_sat.specs.declared.kernel.Stage.TheVariants.{Running, Complete, Refuted, Spent, Lost}
use Rattle.bt_sat.specs.inner.Choices.{IsComplete}
use Rattle.bt_sat.specs.inner.Searching.{SearchesOn, HasSpent, IsRefuted}
use Rattle.bt_sat.specs.inner.Progressing.{IsRunning, LogsStep}
use Rattle.bt_sat.specs.inner.Telling.{TellsOne}
use Rattle.bt_sat.specs.declared.answer.Answer.TheVariants as answer
use Rattle.bt_sat.specs.declared.answer.Assumed.TheVariants as assumed

-- the value of a variable, which is false where it has none
abbrev pub value_of : Option Bool → Bool
value_of None = false
value_of (Some value) = value

-- the values of the variables
abbrev pub model_of : List (Option Bool) → List Bool
model_of values = map value_of values

-- where the search stands, as callers see it
abbrev pub status_of : Stage → List (Option Bool) → Status
status_of Running values = Searches
status_of Complete values = KeepsModel (model_of values)
status_of Refuted values = EndsRefuted
status_of Spent values = EndsSpent
status_of Lost values = LacksMemory

-- what callers see of a search
abbrev pub parts_of : Progress → Stage → SolverParts
parts_of p stage = record {
  formula = p.known.formula;
  steps = p.known.log.steps;
  limit = p.limit;
  status = status_of stage p.search.assignment.values;
}

-- what is known of the search at each stage
abbrev pub StandsAt : Progress → Stage → Type 0
StandsAt p Running = IsRunning p
StandsAt p Complete = IsComplete p
StandsAt p Refuted = IsRefuted p
StandsAt p Spent = HasSpent p
StandsAt p Lost = Unit {0}

-- the log follows the formula, and the search is where its stage says
pub record IsSound (p : Progress) (stage : Stage) : Type 0 where
  pub first : p.known.log.first ≡ length p.known.formula.clauses
  pub stands : StandsAt p stage

-- what an answer says of the search
abbrev pub Comes : Progress → Answer → Type 0
Comes p (answer.Model model) = IsComplete p × (model.items ≡ model_of p.search.assignment.values)
Comes p answer.Refuted = IsRefuted p
Comes p answer.Spent = HasSpent p

-- learnt steps were added, and the answer holds
abbrev pub AnswersBy : Progress → List (Option (List (List Lit))) → Progress → List (Option (List (List Lit))) → Answer → Type 0
AnswersBy old waiting new left answer = SearchesOn old waiting new left × Comes new answer

-- the stage to which an answer leads
abbrev pub stage_after : Answer → Stage
stage_after (answer.Model model) = Complete
stage_after answer.Refuted = Refuted
stage_after answer.Spent = Spent

-- what making literals false says of the search
abbrev pub StandsBy : Progress → Assumed → Type 0
StandsBy p (assumed.Open truths) = IsRunning p
StandsBy p assumed.Follows = IsRunning p
StandsBy p assumed.Refuted = IsRefuted p
StandsBy p assumed.Spent = HasSpent p

-- learnt steps were added, and the search stands so
abbrev pub AssumesBy : Progress → List (Option (List (List Lit))) → Progress → List (Option (List (List Lit))) → Assumed → Type 0
AssumesBy old waiting new left said = SearchesOn old waiting new left × StandsBy new said

-- the search is at no end
abbrev pub IsOpen : Assumed → Type 0
IsOpen (assumed.Open truths) = Unit {0}
IsOpen assumed.Follows = Unit {0}
IsOpen _ = ⊥

-- the stage to which making literals false leads
abbrev pub stage_assumed : Assumed → Stage
stage_assumed (assumed.Open truths) = Running
stage_assumed assumed.Follows = Running
stage_assumed assumed.Refuted = Refuted
stage_assumed assumed.Spent = Spent

-- the search has not come to its end
abbrev pub MayGoOn : Status → Type 0
MayGoOn Searches = Unit {0}
MayGoOn (KeepsModel model) = Unit {0}
MayGoOn _ = ⊥

-- the lemma is one more step, of which the choosers were told, and the search may go on
pub record AddsTo (old : Progress) (waiting : List (Option (List (List Lit)))) (lits : List Lit) (weights : List Ratio) (new : Progress) (left : List (Option (List (List Lit)))) : Type 0 where
  pub running : IsRunning new
  pub logs : LogsStep old.known new.known (Lemma lits weights)
  pub limit : new.limit ≡ old.limit
  pub tells : TellsOne (length old.known.log.steps) waiting lits left

-- The search, from conflict to conflict.
use Rattle.std.specs.Prelude.{◌≡◌, ◌<◌, ℕ, List, [], ◌++◌, Option, Some, None, length}
use Rattle.std.specs.List.{All}
use Rattle.bt_cnf.specs.declared.literal.Lit.{Lit}
use Rattle.bt_log.specs.Logs.{Step, Learnt, clause_of}
use Rattle.bt_sat.specs.Serving.{TellsSteps}
use Rattle.bt_sat.specs.Solving.{IsLearnt}
use Rattle.bt_sat.specs.declared.cdcl.Found.{Found}
use Rattle.bt_sat.specs.declared.cdcl.Found.TheVariants.{Model, Refuted, Spent}
use Rattle.bt_sat.specs.declared.logged_formula.LoggedFormula.{LoggedFormula}
use Rattle.bt_sat.specs.declared.progress.Progress.{Progress}
use Rattle.bt_sat.specs.inner.Choices.{IsComplete, KeepsLog}
use Rattle.bt_sat.specs.inner.Progressing.{IsLogged, IsNextStep, IsRunning, LogsStep}
use Rattle.bt_sat.specs.inner.Telling.{TellsOne}

-- learnt steps were added, of which the choosers were told, and nothing else is known
pub record SearchesOn (old : Progress) (waiting : List (Option (List (List Lit)))) (new : Progress) (left : List (Option (List (List Lit)))) : Type 0 where
  pub added : List Step
  pub learnt : All IsLearnt added
  pub formula : new.known.formula ≡ old.known.formula
  pub log : new.known.log ≡ record { first = old.known.log.first; steps = old.known.log.steps ++ added }
  pub limit : new.limit ≡ old.limit
  pub tells : TellsSteps old.known.log.steps new.known.log.steps waiting left

-- the last step is the empty clause, and those before are as they are to be
pub record IsRefuted (p : Progress) : Type 0 where
  pub before : LoggedFormula
  pub hints : List ℕ
  pub logged : IsLogged before p.limit
  pub room : length before.log.steps < p.limit
  pub logs : LogsStep before p.known (Learnt [] hints)
  pub next : IsNextStep before (Learnt [] hints)

-- the log has no room for one more step
pub record HasSpent (p : Progress) : Type 0 where
  pub logged : IsLogged p.known p.limit
  pub full : length p.known.log.steps ≡ p.limit
  pub step : Step
  pub next : IsNextStep p.known step

-- what is found
abbrev pub Finds : Progress → Found → Type 0
Finds p Model = IsComplete p
Finds p Refuted = IsRefuted p
Finds p Spent = HasSpent p

-- one learnt step was added, of which the choosers were told
pub record StepsOn (old : Progress) (waiting : List (Option (List (List Lit)))) (new : Progress) (left : List (Option (List (List Lit)))) : Type 0 where
  pub step : Step
  pub learnt : IsLearnt step
  pub logs : LogsStep old.known new.known step
  pub limit : new.limit ≡ old.limit
  pub room : length old.known.log.steps < old.limit
  pub tells : TellsOne (length old.known.log.steps) waiting (clause_of step) left

-- what comes of one conflict: the search goes on with one step more, or it has come to its end
abbrev pub LearnsAndTells : Progress → List (Option (List (List Lit))) → Progress → List (Option (List (List Lit))) → Option Found → Type 0
LearnsAndTells old waiting new left None = StepsOn old waiting new left × IsRunning new
LearnsAndTells old waiting new left (Some Model) = ⊥
LearnsAndTells old waiting new left (Some Refuted) = StepsOn old waiting new left × IsRefuted new
LearnsAndTells old waiting new left (Some Spent) = KeepsLog old new × (left ≡ waiting) × HasSpent new

-- what comes of the search
abbrev pub SearchesTo : Progress → List (Option (List (List Lit))) → Progress → List (Option (List (List Lit))) → Found → Type 0
SearchesTo old waiting new left found = SearchesOn old waiting new left × Finds new found

-- the search goes on from what was true before the first choice
pub record Restarts (old new : Progress) : Type 0 where
  pub running : IsRunning new
  pub known : new.known ≡ old.known
  pub limit : new.limit ≡ old.limit

-- what comes of making literals false: the search may go on, or it has come to its end
abbrev pub AssumesTo : Progress → List (Option (List (List Lit))) → Progress → List (Option (List (List Lit))) → Option Found → Type 0
AssumesTo old waiting new left None = SearchesOn old waiting new left × IsRunning new
AssumesTo old waiting new left (Some Model) = ⊥
AssumesTo old waiting new left (Some Refuted) = SearchesOn old waiting new left × IsRefuted new
AssumesTo old waiting new left (Some Spent) = SearchesOn old waiting new left × HasSpent new

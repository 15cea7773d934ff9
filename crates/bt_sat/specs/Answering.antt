-- What the calls of a solver answer.
use Rattle.std.specs.Prelude.{◌≡◌, ◌<◌, List, [], ◌∷◌, length, Option, Result, Ok, Err}
use Rattle.std.specs.List.{All}
use Rattle.std.specs.declared.alloc.AllocError.{AllocError}
use Rattle.bt_frac.specs.Ratio.{Ratio}
use Rattle.bt_cnf.specs.declared.literal.Lit.{Lit}
use Rattle.bt_log.specs.Logs.{Step, Lemma}
use Rattle.bt_log.specs.Refuting.{Refutes}
use Rattle.bt_sat.specs.Serving.{TellsSteps}
use Rattle.bt_sat.specs.Solving.{SolverParts, KeepsModel, Searches, EndsRefuted, EndsSpent, LacksMemory, IsModel, IsSoundLog, IsSpent, IsLearnt, GoesOnBy}
use Rattle.bt_sat.specs.declared.answer.Answer.{Answer}
use Rattle.bt_sat.specs.declared.answer.Assumed.{Assumed}
use Rattle.bt_sat.specs.declared.answer.Added.{Added}
use Rattle.bt_sat.specs.declared.answer.Answer.TheVariants as answer
use Rattle.bt_sat.specs.declared.answer.Assumed.TheVariants as assumed
use Rattle.bt_sat.specs.declared.answer.Added.TheVariants as added

-- what an answer says of the solver that gives it
abbrev pub Says : SolverParts → Answer → Type 0
Says s (answer.Model model) = (s.status ≡ KeepsModel model.items) × IsModel s model.items
Says s answer.Refuted = (s.status ≡ EndsRefuted) × Refutes s.formula s.steps
Says s answer.Spent = (s.status ≡ EndsSpent) × IsSpent s

-- learnt steps alone were added, of which the choosers were told, each step of the log is valid and fresh, and the
-- answer holds; where the search had come to its end, the answer is the same, and nothing has changed
pub record GivesNext (old : SolverParts) (waiting : List (Option (List (List Lit)))) (new : SolverParts) (left : List (Option (List (List Lit)))) (answer : Answer) : Type 0 where
  pub added : List Step
  pub learnt : All IsLearnt added
  pub goes_on : GoesOnBy added old new
  pub tells : TellsSteps old.steps new.steps waiting left
  pub sound : IsSoundLog new
  pub says : Says new answer
  pub refuted : old.status ≡ EndsRefuted → new ≡ old
  pub spent : old.status ≡ EndsSpent → new ≡ old

-- what comes of making literals false says this of the solver: the search goes on, or it is at an end
abbrev pub SaysAssumed : SolverParts → Assumed → Type 0
SaysAssumed s (assumed.Open truths) = s.status ≡ Searches
SaysAssumed s assumed.Follows = s.status ≡ Searches
SaysAssumed s assumed.Refuted = (s.status ≡ EndsRefuted) × Refutes s.formula s.steps
SaysAssumed s assumed.Spent = (s.status ≡ EndsSpent) × IsSpent s

-- literals were made false: learnt steps alone were added, of which the choosers were told, and each step of the log is
-- valid and fresh; where the search had come to its end, nothing has changed
pub record Assumes (old : SolverParts) (waiting : List (Option (List (List Lit)))) (new : SolverParts) (left : List (Option (List (List Lit)))) (said : Assumed) : Type 0 where
  pub added : List Step
  pub learnt : All IsLearnt added
  pub goes_on : GoesOnBy added old new
  pub tells : TellsSteps old.steps new.steps waiting left
  pub sound : IsSoundLog new
  pub says : SaysAssumed new said
  pub refuted : old.status ≡ EndsRefuted → new ≡ old
  pub spent : old.status ≡ EndsSpent → new ≡ old

-- a search that is at an end goes on nowhere: one that was refuted or spent gives an answer, and one that lacks memory
-- gives none
abbrev pub MayAnswer : {X : Type 0} → SolverParts → Result X AllocError → Type 0
MayAnswer old (Ok answer) = old.status ≡ LacksMemory → ⊥
MayAnswer old (Err memory) = (old.status ≡ EndsRefuted → ⊥) × (old.status ≡ EndsSpent → ⊥)

-- one more lemma is logged, of which the chooser that serves was told, and the search goes on
pub record AddsLemma (old : SolverParts) (waiting : List (Option (List (List Lit)))) (lits : List Lit) (weights : List Ratio) (new : SolverParts) (left : List (Option (List (List Lit)))) : Type 0 where
  pub room : length old.steps < old.limit
  pub goes_on : GoesOnBy (Lemma lits weights ∷ []) old new
  pub tells : TellsSteps old.steps new.steps waiting left
  pub sound : IsSoundLog new
  pub searches : new.status ≡ Searches

-- a lemma is added where there is room for a step; where there is none, nothing changes, and the lemma itself would be
-- one more step that is valid and fresh; or memory ran out
abbrev pub IsAdded : SolverParts → List (Option (List (List Lit))) → List Lit → List Ratio → SolverParts → List (Option (List (List Lit))) → Result Added AllocError → Type 0
IsAdded old waiting lits weights new left (Ok added.Kept) = AddsLemma old waiting lits weights new left
IsAdded old waiting lits weights new left (Ok added.Spent) = (new ≡ old) × (left ≡ waiting) × IsSpent old
IsAdded old waiting lits weights new left (Err memory) = (new.status ≡ LacksMemory) × (length old.steps < old.limit)

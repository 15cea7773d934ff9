-- A search for models: what it holds, and what its answers say.
use Rattle.std.specs.Prelude.{◌≡◌, ◌≢◌, ◌<◌, ◌≤◌, ◌^◌, ℕ, Bool, List, [], ◌∷◌, ◌++◌, length, map}
use Rattle.std.specs.List.{All}
use Rattle.bt_frac.specs.Ratio.{Ratio}
use Rattle.bt_cnf.specs.Assignments.{truth_in}
use Rattle.bt_cnf.specs.Formulas.{FormulaParts}
use Rattle.bt_cnf.specs.Meeting.{IsTrueUnder, MeetsClause}
use Rattle.bt_cnf.specs.declared.literal.Lit.{Lit}
use Rattle.bt_log.specs.Logs.{Step, Lemma, Learnt, LogParts, clause_of}
use Rattle.bt_log.specs.Validity.{IsValidLemma, IsValidStep, AreValid}
use Rattle.bt_sat.specs.Freshness.{IsFreshStep}

-- where a search stands: it goes on, it keeps the model that it answered, it has come to its end, or it has lost its
-- place for want of memory
pub data Status : Type 0 where
  Searches : Status
  KeepsModel : List Bool → Status
  EndsRefuted : Status
  EndsSpent : Status
  LacksMemory : Status

-- the formula, the steps of the log, how many steps it may have, and where the search stands
pub record SolverParts : Type 0 where
  pub formula : FormulaParts
  pub steps : List Step
  pub limit : ℕ
  pub status : Status

-- a search that begins
abbrev pub begun : FormulaParts → ℕ → SolverParts
begun formula limit = record { formula = formula; steps = []; limit = limit; status = Searches }

-- the log
abbrev pub log_of : SolverParts → LogParts
log_of s = record { first = length s.formula.clauses; steps = s.steps }

-- the clauses of the formula, and those of the steps
abbrev pub clauses_of : SolverParts → List (List Lit)
clauses_of s = s.formula.clauses ++ map clause_of s.steps

-- each variable has a value, and each clause of the formula and of the log a true literal
pub record IsModel (s : SolverParts) (model : List Bool) : Type 0 where
  pub size : length model ≡ s.formula.vars
  pub meets : All (MeetsClause (truth_in model)) (clauses_of s)

-- each step is fresh after these clauses and those of the earlier steps
abbrev pub AreFresh : List (List Lit) → List Step → Type 0
AreFresh clauses [] = Unit {0}
AreFresh clauses (step ∷ steps) = IsFreshStep clauses step × AreFresh (clauses ++ clause_of step ∷ []) steps

-- no step adds the empty clause
abbrev pub AreNonempty : List Step → Type 0
AreNonempty steps = All (λ step. clause_of step ≢ []) steps

-- each step is valid and fresh, none before the last is empty, and there are no more than the limit says
pub record IsSoundLog (s : SolverParts) : Type 0 where
  pub valid : AreValid s.formula s.formula.clauses s.steps
  pub fresh : AreFresh s.formula.clauses s.steps
  pub nonempty : (front : List Step) (last : Step) → s.steps ≡ front ++ last ∷ [] → AreNonempty front
  pub within : length s.steps ≤ s.limit

-- the log has as many steps as the limit says, which are fewer than 3 ^ v over v variables, none is empty, and one more
-- step is valid and fresh after them
pub record IsSpent (s : SolverParts) : Type 0 where
  pub full : length s.steps ≡ s.limit
  pub few : s.limit < 3 ^ s.formula.vars
  pub nonempty : AreNonempty s.steps
  pub more : Step
  pub valid : IsValidStep s.formula (clauses_of s) more
  pub fresh : IsFreshStep (clauses_of s) more

-- the step is a learnt clause
abbrev pub IsLearnt : Step → Type 0
IsLearnt (Lemma lits weights) = ⊥
IsLearnt (Learnt lits hints) = Unit {0}

-- the formula, the limit and the earlier steps stay, and these steps follow
pub record GoesOnBy (added : List Step) (old new : SolverParts) : Type 0 where
  pub formula : new.formula ≡ old.formula
  pub limit : new.limit ≡ old.limit
  pub steps : new.steps ≡ old.steps ++ added

-- the solver keeps a model under which all literals of a valid lemma are false
pub record IsLemmaOf (s : SolverParts) (lits : List Lit) (weights : List Ratio) : Type 0 where
  pub model : List Bool
  pub keeps : s.status ≡ KeepsModel model
  pub unmet : All (λ l. IsTrueUnder (truth_in model) l → ⊥) lits
  pub valid : IsValidLemma s.formula lits weights

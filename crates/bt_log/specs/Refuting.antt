-- Logs that refute a formula.
use Rattle.std.specs.Prelude.{◌≡◌, List, [], ◌∷◌, ◌++◌}
use Rattle.bt_cnf.specs.Formulas.{FormulaParts}
use Rattle.bt_log.specs.Logs.{Step, clause_of}
use Rattle.bt_log.specs.Validity.{AreValid}

-- the last step adds the empty clause
pub record EndsEmpty (steps : List Step) : Type 0 where
  pub front : List Step
  pub last : Step
  pub split : steps ≡ front ++ last ∷ []
  pub empty : clause_of last ≡ []

-- the steps refute the formula: each is valid after its clauses and the earlier steps, and the last adds the
-- empty clause
pub record Refutes (f : FormulaParts) (steps : List Step) : Type 0 where
  pub valid : AreValid f f.clauses steps
  pub ends : EndsEmpty steps

-- Which chooser serves, and what each is told.
use Rattle.std.specs.Prelude.{◌≡◌, ◌+◌, ◌*◌, ℕ, List, ◌++◌, length, map, take, drop, nat_lt, slice_get, if◌then◌else◌, Option, Some}
use Rattle.bt_cnf.specs.Choosing.{Gains}
use Rattle.bt_cnf.specs.declared.literal.Lit.{Lit}
use Rattle.bt_log.specs.Logs.{Step, clause_of}
use Rattle.bt_sat.specs.declared.serving.TheConstants.{EPOCH_STEPS}

-- the steps of a log that are a chooser's epoch: as many for each chooser in turn, and for the last one all that follow
abbrev pub epoch : ℕ → ℕ → List Step → List Step
epoch choosers place steps =
    if nat_lt (place + 1) choosers then take EPOCH_STEPS (drop (EPOCH_STEPS * place) steps) else drop (EPOCH_STEPS * place) steps

-- the chooser at a place was told, in order, the clauses of the steps by which its epoch has grown
pub record HearsOf (choosers place : ℕ) (before after : List Step) (old new : Option (List (List Lit))) : Type 0 where
  pub added : List Step
  pub grows : epoch choosers place after ≡ epoch choosers place before ++ added
  pub told : Gains old new (map clause_of added)

-- the log has grown, and each chooser was told of the steps of its epoch
pub record TellsSteps (before after : List Step) (old new : List (Option (List (List Lit)))) : Type 0 where
  pub count : length new ≡ length old
  pub each : (place : ℕ) (was is : Option (List (List Lit))) → slice_get old place ≡ Some was → slice_get new place ≡ Some is
      → HearsOf (length old) place before after was is

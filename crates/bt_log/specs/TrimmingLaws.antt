-- What holds of a log still where the steps that aren't needed are left out of it.
use Rattle.std.specs.Prelude.{◌≡◌, ◌≤◌, length}
use Rattle.bt_cnf.specs.Formulas.{FormulaParts}
use Rattle.bt_log.specs.Logs.{LogParts}
use Rattle.bt_log.specs.Refuting.{Refutes}
use Rattle.bt_log.specs.Trimming.{IsTrimmed}

-- where a log over the clauses of a formula refutes it, what is left does
abbrev pub TrimmedRefutes : Type 0
TrimmedRefutes = (f : FormulaParts) (old new : LogParts) → IsTrimmed old new → old.first ≡ length f.clauses → Refutes f old.steps
    → Refutes f new.steps

-- no more steps are left than there were
abbrev pub TrimmedIsShort : Type 0
TrimmedIsShort = (old new : LogParts) → IsTrimmed old new → length new.steps ≤ length old.steps

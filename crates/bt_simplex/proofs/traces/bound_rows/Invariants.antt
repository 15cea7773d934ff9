use Rattle.std.proofs.Common.{◌≡◌, ◌++◌, drop}
use Rattle.bt_simplex.specs.Checks.{bound_from}
use Rattle.bt_simplex.proofs.traces.bound_rows.Given as goal

abbrev pub invariant-loop-row : goal.invariant-loop-row
invariant-loop-row l = l.rows.items ++ bound_from l.row (drop l.row l.bound) ≡ bound_from 0 l.bound

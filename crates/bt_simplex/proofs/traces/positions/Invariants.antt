use Rattle.std.proofs.Common.{◌≡◌, ◌++◌, drop}
use Rattle.bt_pivot.specs.SolvedForms.{basis_from, basis_of}
use Rattle.bt_simplex.proofs.traces.positions.Given as goal

abbrev pub invariant-loop-position : goal.invariant-loop-position
invariant-loop-position l = l.positions.items ++ basis_from l.position (drop l.position l.basis) ≡ basis_of l.basis

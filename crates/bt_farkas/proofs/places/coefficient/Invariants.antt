use Rattle.std.proofs.Common.{◌≡◌, drop}
use Rattle.bt_farkas.specs.WeightedRows.{coefficient_at}
use Rattle.bt_farkas.proofs.places.coefficient.Given as goal

abbrev pub invariant-loop-other : goal.invariant-loop-other
invariant-loop-other l = coefficient_at l.column l.terms ≡ coefficient_at l.column (drop l.other-index l.terms)

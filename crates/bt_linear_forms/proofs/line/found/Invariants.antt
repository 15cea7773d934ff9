use Rattle.std.proofs.Common.{◌≡◌, drop}
use Rattle.bt_farkas.specs.WeightedRows.{coefficient_at}
use Rattle.bt_linear_forms.proofs.line.found.Given as goal

abbrev pub invariant-loop-other : goal.invariant-loop-other
invariant-loop-other l = coefficient_at l.position l.terms ≡ coefficient_at l.position (drop l.other-index l.terms)

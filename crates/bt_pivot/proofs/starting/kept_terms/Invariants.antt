use Rattle.std.proofs.Common.{◌≡◌, ◌++◌, drop}
use Rattle.bt_pivot.specs.inner.Starts.{kept}
use Rattle.bt_pivot.proofs.starting.kept_terms.Given as goal

abbrev pub invariant-loop-position : goal.invariant-loop-position
invariant-loop-position l = l.left.items ++ kept (drop l.position-index l.terms) ≡ kept l.terms

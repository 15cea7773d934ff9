use Rattle.bt_watch.specs.inner.Loads.{AreUnsetAll}
use Rattle.bt_watch.proofs.loading.unset_values.Given as goal

abbrev pub invariant-loop : goal.invariant-loop
invariant-loop l = AreUnsetAll l.counter l.values

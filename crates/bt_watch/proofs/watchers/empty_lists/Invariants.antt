use Rattle.std.proofs.Common.{◌*◌}
use Rattle.bt_watch.specs.inner.Loads.{AreEmptyLists}
use Rattle.bt_watch.specs.inner.Watchers.{lists_of}
use Rattle.bt_watch.proofs.watchers.empty_lists.Given as goal

abbrev pub invariant-loop-var : goal.invariant-loop-var
invariant-loop-var l = AreEmptyLists (2 * l.var) (lists_of l.lists)

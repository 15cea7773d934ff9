use Rattle.std.proofs.Common.{◌+◌, ◌-◌, length}
use Rattle.bt_cnf.specs.Truths.{unset}
use Rattle.bt_watch.specs.Propagating.{GoesOn, IsPropagatedTo}
use Rattle.bt_watch.proofs.search.propagate.Given as goal

abbrev pub invariant-loop-head : goal.invariant-loop-head
invariant-loop-head l = record {
  goes : GoesOn l.fn.search l.search;
  propagated : IsPropagatedTo l.head l.search;
}

abbrev pub decreases-loop-head : goal.decreases-loop-head
decreases-loop-head l = unset l.search.assignment.values + length l.search.assignment.trail.items - l.head

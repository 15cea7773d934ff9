use Rattle.std.proofs.Common.{◌-◌, List, vec_len}
use Rattle.bt_cnf.specs.declared.literal.Lit.{Lit}
use Rattle.bt_watch.specs.inner.PropagatingLit.{with_watches, Visiting}
use Rattle.bt_watch.specs.Propagating.{GoesOn}
use Rattle.bt_watch.proofs.search.visit_list.Given as goal

abbrev pub invariant-loop-from : goal.invariant-loop-from
invariant-loop-from l = record {
  goes : GoesOn (with_watches l.fn.search l.false_lit l.fn.list.items) (with_watches l.search l.false_lit l.list.items);
  visiting : (part : List Lit) → Visiting part l.false_lit 0 (with_watches l.fn.search l.false_lit l.fn.list.items) → Visiting part l.false_lit l.from (with_watches l.search l.false_lit l.list.items);
}

abbrev pub decreases-loop-from : goal.decreases-loop-from
decreases-loop-from l = vec_len l.list - l.from

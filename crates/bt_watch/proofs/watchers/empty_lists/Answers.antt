use Rattle.std.proofs.Common.{◌≡◌, ◌+◌, ◌*◌, arith, subst}
use Rattle.bt_watch.specs.inner.Loads.{AreEmptyLists}
use Rattle.bt_watch.specs.inner.Watchers.{lists_of}
use Rattle.bt_watch.proofs.Lent.{empty_more}
use Rattle.bt_watch.proofs.watchers.empty_lists.Goals as goal

pub loop-var-preserved : goal.loop-var-preserved
loop-var-preserved c =
    let one = empty_more (2 * c.loop-var.var) c.loop-var.lists c.push.new.self c.in_ok-with_capacity.field-0 c.loop-var.invariant c.in_ok-push.ensures.items c.in_ok-with_capacity.ensures.items in
    let two = empty_more (2 * c.loop-var.var + 1) c.push.new.self c.push-in-loop-var.new.self c.in_ok-with_capacity-2.field-0 one c.in_ok-push-2.ensures.items c.in_ok-with_capacity-2.ensures.items in
    let count : 2 * c.loop-var.var + 1 + 1 ≡ 2 * (c.loop-var.var + 1) = omega arith in
    subst (λ n. AreEmptyLists n (lists_of c.push-in-loop-var.new.self)) count two

use Rattle.std.proofs.Common.{◌-◌, length}
use Rattle.bt_choosers.specs.Orders.{HasFirst}
use Rattle.bt_choosers.proofs.order.cover.Given as goal

abbrev pub invariant-loop-vars : goal.invariant-loop-vars
invariant-loop-vars l = HasFirst (length l.vars.items) l.vars.items

abbrev pub decreases-loop-vars : goal.decreases-loop-vars
decreases-loop-vars l = length l.values - length l.vars.items

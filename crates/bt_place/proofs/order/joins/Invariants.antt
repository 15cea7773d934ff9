use Rattle.std.proofs.Common.{◌≡◌, length}
use Rattle.bt_place.specs.Numbering.{joins}
use Rattle.bt_place.proofs.order.joins.Given as goal

abbrev pub invariant-loop-other : goal.invariant-loop-other
invariant-loop-other l = joins l.placed l.splitter l.edge ≡ joins l.rest l.splitter l.edge

abbrev pub decreases-loop-other : goal.decreases-loop-other
decreases-loop-other l = length l.rest

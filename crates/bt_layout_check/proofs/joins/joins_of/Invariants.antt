use Rattle.std.proofs.Common.{◌≡◌, take}
use Rattle.bt_layout_check.specs.Laid.{naming_of}
use Rattle.bt_layout_check.specs.inner.Joins.{joins_of}
use Rattle.bt_layout_check.proofs.joins.joins_of.Given as goal

-- the edges so far
abbrev pub invariant-loop-edge : goal.invariant-loop-edge
invariant-loop-edge l = l.joins.items ≡ joins_of (naming_of l.names) (take l.edge-index l.edges)

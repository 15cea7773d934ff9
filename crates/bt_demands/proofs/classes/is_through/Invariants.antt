use Rattle.std.proofs.Common.{◌≡◌, take, false}
use Rattle.std.specs.List.{list_any}
use Rattle.bt_demands.specs.inner.Tables as tables
use Rattle.bt_demands.proofs.classes.is_through.Given as goal

abbrev pub invariant-loop-edge : goal.invariant-loop-edge
invariant-loop-edge l = list_any (tables.passes l.input) (take l.edge-index l.edges) ≡ false

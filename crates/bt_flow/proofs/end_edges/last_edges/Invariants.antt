use Rattle.std.proofs.Common.{◌≡◌, take}
use Rattle.bt_flow.specs.Ports.{numbers_where}
use Rattle.bt_flow.specs.Properties.{is_last}
use Rattle.bt_flow.proofs.end_edges.last_edges.Given as goal

abbrev pub invariant-loop-number : goal.invariant-loop-number
invariant-loop-number l = l.numbers.items ≡ numbers_where is_last 0 (take l.number l.net.edges)

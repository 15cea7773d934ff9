use Rattle.bt_flow.specs.inner.AtPorts.{IsEmptyBeside}
use Rattle.bt_flow.proofs.Both.{port_one, port_two, port_fails}
use Rattle.bt_flow.proofs.at_ports.is_only.Goals as goal

pub returns-in-One : goal.returns-in-One
returns-in-One c = λ n s h. port_one (IsEmptyBeside s c.args.place) c.args.port c.in-One.only c.is_empty_beside.result c.in-One.is (c.is_empty_beside.ensures n s h)

pub returns-then-is_empty_beside : goal.returns-then-is_empty_beside
returns-then-is_empty_beside c = λ n s h.
    port_two (IsEmptyBeside s c.args.place) c.args.port c.in-Two.first c.in-Two.second c.is_empty_beside-in-Two.result c.is_empty_beside-then-is_empty_beside.result c.in-Two.is c.if-is_empty_beside.true
    (c.is_empty_beside-in-Two.ensures n s h) (c.is_empty_beside-then-is_empty_beside.ensures n s h)

pub returns-else-is_empty_beside : goal.returns-else-is_empty_beside
returns-else-is_empty_beside c = λ n s h.
    port_fails (IsEmptyBeside s c.args.place) c.args.port c.in-Two.first c.in-Two.second c.is_empty_beside-in-Two.result c.in-Two.is c.if-is_empty_beside.false (c.is_empty_beside-in-Two.ensures n s h)

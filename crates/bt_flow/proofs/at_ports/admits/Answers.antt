use Rattle.bt_net.specs.declared.network.Edge.{Edge}
use Rattle.bt_flow.specs.Steady.{HasEdge}
use Rattle.bt_flow.proofs.Both.{port_one, port_two, port_fails}
use Rattle.bt_flow.specs.inner.AtPorts.{Admits}
use Rattle.bt_flow.proofs.at_ports.admits.Goals as goal

pub returns-in-One : goal.returns-in-One
returns-in-One c = λ s x some e.
    port_one (λ a. (f : Edge) → HasEdge c.args.net.now a f → Admits s x c.args.full f) c.args.port c.in-One.only c.admits_at.result c.in-One.is (c.admits_at.ensures s x some e)

pub returns-then-admits_at : goal.returns-then-admits_at
returns-then-admits_at c = λ s x some e.
    port_two (λ a. (f : Edge) → HasEdge c.args.net.now a f → Admits s x c.args.full f) c.args.port c.in-Two.first c.in-Two.second c.admits_at-in-Two.result c.admits_at-then-admits_at.result
    c.in-Two.is c.if-admits_at.true (c.admits_at-in-Two.ensures s x some e) (c.admits_at-then-admits_at.ensures s x some e)

pub returns-else-admits_at : goal.returns-else-admits_at
returns-else-admits_at c = λ s x some e.
    port_fails (λ a. (f : Edge) → HasEdge c.args.net.now a f → Admits s x c.args.full f) c.args.port c.in-Two.first c.in-Two.second c.admits_at-in-Two.result
    c.in-Two.is c.if-admits_at.false (c.admits_at-in-Two.ensures s x some e)

use Rattle.bt_net.proofs.Tallying.{admitted, admits}
use Rattle.bt_net.proofs.wiring.Wiring.admits.Goals as goal

pub returns-then-start : goal.returns-then-start
returns-then-start c =
    let start = rw (c.deref.ensures.value, c.deref-2.ensures.value) at c.starts_free-start.ensures in
    let target = rw (c.deref-3.ensures.value, c.deref-4.ensures.value) at c.ends_free-target.ensures in
    let to = admits _ _ _ _ _ c.self.invariant c.args.edge (start.0 c.if-start.true) in
    let from = admitted _ _ _ _ _ c.self.invariant c.args.edge in
    rw (← c.self.view_is) (λ yes. to (target.0 yes) c.requires, λ new. target.1 (from new).1)

pub returns-else-start : goal.returns-else-start
returns-else-start c =
    let start = rw (c.deref.ensures.value, c.deref-2.ensures.value) at c.starts_free-start.ensures in
    let from = admitted _ _ _ _ _ c.self.invariant c.args.edge in
    rw (← c.self.view_is) (λ yes. absurd (cc), λ new. start.1 (from new).0)

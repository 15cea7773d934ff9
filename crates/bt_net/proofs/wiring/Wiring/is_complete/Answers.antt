use Rattle.bt_net.proofs.Tallying.{completes, completed}
use Rattle.bt_net.proofs.wiring.Wiring.is_complete.Goals as goal

pub returns-then-inputs : goal.returns-then-inputs
returns-then-inputs c =
    let ins = rw c.deref.ensures.value at c.each_is_one-inputs.ensures in
    let outs = rw c.deref-2.ensures.value at c.each_is_one-outputs.ensures in
    rw (← c.self.view_is) (λ yes. completes _ _ _ _ _ c.self.invariant (ins.0 c.if-inputs.true) (outs.0 yes), λ whole. outs.1 (completed _ _ _ _ _ c.self.invariant whole).1)

pub returns-else-inputs : goal.returns-else-inputs
returns-else-inputs c =
    let ins = rw c.deref.ensures.value at c.each_is_one-inputs.ensures in
    rw (← c.self.view_is) (λ yes. absurd (cc), λ whole. ins.1 (completed _ _ _ _ _ c.self.invariant whole).0)

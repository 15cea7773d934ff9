use Rattle.bt_demands.specs.Plans.{IsGate}
use Rattle.bt_demands.specs.declared.plan.Gate.{Gate}
use Rattle.bt_facts.proofs.Drawn.{numbers_made, all_pushed}
use Rattle.bt_demands.proofs.plan.gates_of.Goals as goal

pub loop-splitter-preserved : goal.loop-splitter-preserved
loop-splitter-preserved c = (
  numbers_made (λ (g : Gate). g.splitter) c.loop-splitter.gates.items c.push.new.self.items c.loop-splitter.splitter c.in_ok-gate.gate c.loop-splitter.invariant.0
      c.in_ok-push.ensures.items c.in_ok-gate.ensures.splitter,
  all_pushed (IsGate c.args.request.now) c.loop-splitter.gates.items c.push.new.self.items c.in_ok-gate.gate c.in_ok-push.ensures.items c.loop-splitter.invariant.1 c.in_ok-gate.ensures.is,
)

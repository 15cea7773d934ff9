use Rattle.bt_demands.specs.Classes as classing
use Rattle.bt_facts.proofs.Drawn.{number_kept}
use Rattle.bt_demands.proofs.plan.goals.Goals as goal

pub loop-splitter-preserved : goal.loop-splitter-preserved
loop-splitter-preserved c = number_kept (classing.goes_to c.args.request.now c.args.class) c.loop-splitter.found.items c.push_goal.new.found.items c.loop-splitter.splitter c.loop-splitter.invariant c.in_ok-push_goal.ensures

use Rattle.bt_demands.specs.inner.Tables as tables
use Rattle.bt_facts.proofs.Drawn.{number_kept}
use Rattle.bt_demands.proofs.plan.onward.Goals as goal

pub loop-splitter-preserved : goal.loop-splitter-preserved
loop-splitter-preserved c = number_kept (tables.goes_on c.args.request.now c.args.from) c.loop-splitter.found.items c.push_onward.new.found.items c.loop-splitter.splitter c.loop-splitter.invariant c.in_ok-push_onward.ensures
